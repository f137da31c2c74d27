use Rattle.bac_data.proofs.PartLemmas.{viable_element}
use Rattle.bac_data.proofs.laws.elements_are_viable_in_a_case.Goals as goal

pub returns : goal.returns
returns c = viable_element
