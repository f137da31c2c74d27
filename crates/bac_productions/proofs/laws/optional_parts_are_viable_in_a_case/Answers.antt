use Rattle.bac_productions.proofs.ViableLemmas.{viable_optional}
use Rattle.bac_productions.proofs.laws.optional_parts_are_viable_in_a_case.Goals as goal

pub returns : goal.returns
returns g c = λ b. viable_optional g.A.Spelled.spells b
