use Rattle.bac_tag.specs.Laws.Spelling.{viable-JoinedBy}
use Rattle.bac_fields.proofs.laws.joined_parts_are_viable_in_turn.Goals as goal

pub returns : goal.returns
returns g c = λ y d says es. viable-JoinedBy g.A.Said.says (λ (x : g.A.Said.Value). g.B.Said.says) (λ x a p. (y, d, says)) es
