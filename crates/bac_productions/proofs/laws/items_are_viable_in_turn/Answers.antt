use Rattle.bac_productions.proofs.ViableLemmas.{viable_items}
use Rattle.bac_productions.proofs.laws.items_are_viable_in_turn.Goals as goal

pub returns : goal.returns
returns g c = λ b. viable_items g.A.Spelled.spells b
