use Rattle.bac_pack.proofs.TextLaws.{unique}
use Rattle.bac_pack.proofs.laws.lines_are_unique.Goals as goal

pub returns : goal.returns
returns c = unique
