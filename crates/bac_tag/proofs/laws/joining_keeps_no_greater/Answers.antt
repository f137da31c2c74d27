use Rattle.bac_tag.specs.Laws.Octets.{NoGreater-append}
use Rattle.bac_tag.proofs.laws.joining_keeps_no_greater.Goals as goal

pub returns : goal.returns
returns c = NoGreater-append
