use Rattle.bac_tag.specs.Laws.Octets.{NoGreater-trans}
use Rattle.bac_tag.proofs.laws.no_greater_than_a_greater.Goals as goal

pub returns : goal.returns
returns c = NoGreater-trans
