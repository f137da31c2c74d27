use Rattle.bac_tag.specs.Laws.Spelling.{refused_either}
use Rattle.bac_tag.proofs.laws.farther_refusals_are_those_of_a_choice.Goals as goal

pub returns : goal.returns
returns g c = λ input first second. refused_either g.A.Spelled.spells g.B.Spelled.spells input first second
