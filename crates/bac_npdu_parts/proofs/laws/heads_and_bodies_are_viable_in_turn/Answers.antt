use Rattle.bac_npdu_parts.proofs.CaseLemmas.{heads_in_turn}
use Rattle.bac_npdu_parts.proofs.laws.heads_and_bodies_are_viable_in_turn.Goals as goal

pub returns : goal.returns
returns c = heads_in_turn
