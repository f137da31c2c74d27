use Rattle.bac_tag.specs.Laws.Spelling.{viable-JoinedBy}
use Rattle.bac_tag.proofs.laws.joined_parts_are_viable_in_turn.Goals as goal

pub returns : goal.returns
returns g c = λ y d s b. viable-JoinedBy g.A.Spelled.spells (λ (x : g.A.Spelled.Value). g.B.Spelled.spells) (λ x a p. (y, d, s)) b
