use Rattle.bac_tag.specs.Laws.Octets.{NoGreater-antisym}
use Rattle.bac_tag.proofs.laws.neither_is_greater.Goals as goal

pub returns : goal.returns
returns c = NoGreater-antisym
