use Rattle.std.proofs.Common.{sym, ap}
use Rattle.bac_service.specs.Services.{value_of}
use Rattle.bac_fields.specs.ServiceFields.{service_steps}
use Rattle.bac_field_parts.proofs.FieldLemmas.{writes_same}
use Rattle.bac_fields.proofs.services.ServiceHasFields.tell.Goals as goal

pub returns-in-ReadProperty : goal.returns-in-ReadProperty
returns-in-ReadProperty c = writes_same (ap (λ s. service_steps (value_of s)) (sym c.in-ReadProperty.is)) c.tell.ensures

pub returns-in-ReadPropertyAck : goal.returns-in-ReadPropertyAck
returns-in-ReadPropertyAck c = writes_same (ap (λ s. service_steps (value_of s)) (sym c.in-ReadPropertyAck.is)) c.tell-in-ReadPropertyAck.ensures

pub returns-in-WriteProperty : goal.returns-in-WriteProperty
returns-in-WriteProperty c = writes_same (ap (λ s. service_steps (value_of s)) (sym c.in-WriteProperty.is)) c.tell-in-WriteProperty.ensures

pub returns-in-ReadPropertyMultiple : goal.returns-in-ReadPropertyMultiple
returns-in-ReadPropertyMultiple c = writes_same (ap (λ s. service_steps (value_of s)) (sym c.in-ReadPropertyMultiple.is)) c.tell-in-ReadPropertyMultiple.ensures

pub returns-in-ReadPropertyMultipleAck : goal.returns-in-ReadPropertyMultipleAck
returns-in-ReadPropertyMultipleAck c = writes_same (ap (λ s. service_steps (value_of s)) (sym c.in-ReadPropertyMultipleAck.is)) c.tell-in-ReadPropertyMultipleAck.ensures

pub returns-in-WritePropertyMultiple : goal.returns-in-WritePropertyMultiple
returns-in-WritePropertyMultiple c = writes_same (ap (λ s. service_steps (value_of s)) (sym c.in-WritePropertyMultiple.is)) c.tell-in-WritePropertyMultiple.ensures

pub returns-in-WhoIs : goal.returns-in-WhoIs
returns-in-WhoIs c = writes_same (ap (λ s. service_steps (value_of s)) (sym c.in-WhoIs.is)) c.tell-in-WhoIs.ensures

pub returns-in-IAm : goal.returns-in-IAm
returns-in-IAm c = writes_same (ap (λ s. service_steps (value_of s)) (sym c.in-IAm.is)) c.tell-in-IAm.ensures

pub returns-in-SubscribeCov : goal.returns-in-SubscribeCov
returns-in-SubscribeCov c = writes_same (ap (λ s. service_steps (value_of s)) (sym c.in-SubscribeCov.is)) c.tell-in-SubscribeCov.ensures

pub returns-in-CovNotification : goal.returns-in-CovNotification
returns-in-CovNotification c = writes_same (ap (λ s. service_steps (value_of s)) (sym c.in-CovNotification.is)) c.tell-in-CovNotification.ensures

pub returns-in-ServiceError : goal.returns-in-ServiceError
returns-in-ServiceError c = writes_same (ap (λ s. service_steps (value_of s)) (sym c.in-ServiceError.is)) c.tell-in-ServiceError.ensures

pub returns-in-WritePropertyMultipleError : goal.returns-in-WritePropertyMultipleError
returns-in-WritePropertyMultipleError c = writes_same (ap (λ s. service_steps (value_of s)) (sym c.in-WritePropertyMultipleError.is)) c.tell-in-WritePropertyMultipleError.ensures

pub returns-in-Opaque : goal.returns-in-Opaque
returns-in-Opaque c = writes_same (ap (λ s. service_steps (value_of s)) (sym c.in-Opaque.is)) c.tell-in-Opaque.ensures
