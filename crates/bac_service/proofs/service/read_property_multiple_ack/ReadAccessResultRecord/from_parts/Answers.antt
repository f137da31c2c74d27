use Rattle.std.proofs.lemmas.List.{map-id}
use Rattle.bac_service.proofs.service.read_property_multiple_ack.ReadAccessResultRecord.from_parts.Goals as goal

pub returns : goal.returns
returns c = λ b. rw (c.in-Some.is, map-id) (λ s. s, λ s. s)
