use Rattle.bac_value.proofs.ViableLemmas.{viable_contents}
use Rattle.bac_value.proofs.laws.contents_are_viable_in_a_type.Goals as goal

pub returns : goal.returns
returns c = viable_contents
