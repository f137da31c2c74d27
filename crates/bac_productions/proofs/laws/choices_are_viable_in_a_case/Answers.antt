use Rattle.bac_tag.specs.Laws.Spelling.{viable-OneOf}
use Rattle.bac_productions.proofs.laws.choices_are_viable_in_a_case.Goals as goal

pub returns : goal.returns
returns g c = λ b. viable-OneOf g.A.Production.spells g.B.Production.spells b
