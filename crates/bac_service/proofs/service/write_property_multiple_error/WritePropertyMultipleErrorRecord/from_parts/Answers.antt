use Rattle.bac_service.proofs.service.write_property_multiple_error.WritePropertyMultipleErrorRecord.from_parts.Goals as goal

pub returns : goal.returns
returns c = λ b. rw c.bare_number.ensures (λ s. s, λ s. s)
