use Rattle.std.proofs.lemmas.List.{map-id}
use Rattle.bac_service.proofs.service.cov_notification.CovNotificationRecord.from_parts.Goals as goal

pub returns : goal.returns
returns c = λ b. rw (c.number.ensures, c.number-2.ensures, map-id) (λ s. s, λ s. s)
