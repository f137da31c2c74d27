use Rattle.bac_tag.specs.Laws.Spelling.{viable-OneOf}
use Rattle.bac_fields.proofs.laws.choices_are_viable_in_a_case.Goals as goal

pub returns : goal.returns
returns g c = λ es. viable-OneOf g.A.Said.says g.B.Said.says es
