use Rattle.bac_productions.specs.Laws.Viable.{viable_both}
use Rattle.bac_productions.proofs.laws.joined_parts_are_viable_in_turn.Goals as goal

pub returns : goal.returns
returns g c = λ b. viable_both g.A.Production.spells g.B.Production.spells (g.met.B.Production.inhabited c.requires) b
