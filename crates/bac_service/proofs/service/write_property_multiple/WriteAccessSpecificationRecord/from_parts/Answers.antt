use Rattle.std.proofs.lemmas.List.{map-id}
use Rattle.bac_service.proofs.service.write_property_multiple.WriteAccessSpecificationRecord.from_parts.Goals as goal

pub returns : goal.returns
returns c = λ b. rw map-id (λ s. s, λ s. s)
