use Rattle.bac_data.proofs.PartLemmas.{viable_more}
use Rattle.bac_data.proofs.laws.lists_are_viable_in_turn.Goals as goal

pub returns : goal.returns
returns c = viable_more
