use Rattle.bac_service.specs.Laws.Joins.{joined_first, joined_last}
use Rattle.bac_service.proofs.service.property_value.PropertyValueRecord.from_parts.Goals as goal

pub returns : goal.returns
returns c = λ b. rw (c.bare_number.ensures, c.bare.ensures) (λ s. joined_last s, λ s. joined_first s)
