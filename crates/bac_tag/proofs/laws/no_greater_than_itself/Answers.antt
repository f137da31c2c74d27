use Rattle.bac_tag.specs.Laws.Octets.{NoGreater-refl}
use Rattle.bac_tag.proofs.laws.no_greater_than_itself.Goals as goal

pub returns : goal.returns
returns c = NoGreater-refl
