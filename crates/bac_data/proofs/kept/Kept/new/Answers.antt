use Rattle.std.proofs.Common.{refl}
use Rattle.bac_data.proofs.kept.Kept.new.Goals as goal

pub returns : goal.returns
returns c = refl
