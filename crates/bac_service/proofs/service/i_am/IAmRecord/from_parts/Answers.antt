use Rattle.bac_service.proofs.service.i_am.IAmRecord.from_parts.Goals as goal

pub returns : goal.returns
returns c = λ b. rw (c.number.ensures, c.number-2.ensures) (λ s. s, λ s. s)
