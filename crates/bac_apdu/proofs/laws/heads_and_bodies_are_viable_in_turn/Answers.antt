use Rattle.bac_apdu.proofs.CaseLemmas.{heads_in_turn}
use Rattle.bac_apdu.proofs.laws.heads_and_bodies_are_viable_in_turn.Goals as goal

pub returns : goal.returns
returns c = heads_in_turn c.each_choice_has_a_service.ensures
