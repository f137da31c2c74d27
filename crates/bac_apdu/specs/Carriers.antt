-- APDUs that carry a service, as values.
use Rattle.std.specs.Prelude.{ℕ, refl}
use Rattle.std.specs.Coded.{Coded, code_by, coded×, coded_ℕ}
use Rattle.bac_service.specs.declared.service.Service.{Service}
use Rattle.bac_service.specs.contracts.service.Service.{the_row as service_row}
use Rattle.bac_apdu.specs.declared.confirmed_request.RequestHead.{RequestHead}
use Rattle.bac_apdu.specs.contracts.confirmed_request.RequestHead.{the_row as head_row}

-- What contracts see of a ConfirmedRequest: its head and its service.
pub record RequestCarrier : Type 0 where
  pub head : RequestHead
  pub service : Service

-- How the logic stores a RequestCarrier: as its head and its service.
abbrev pub request_code : Coded RequestCarrier
request_code = code_by (RequestHead × Service) (coded× head_row.coded service_row.coded) (λ s. (s.head, s.service)) (λ p. record { head = p.0; service = p.1 }) (λ s. refl)

-- What contracts see of a ComplexAck and of an ErrorPdu: its invoke id and its service.
pub record AnswerCarrier : Type 0 where
  pub invoke : ℕ
  pub service : Service

-- How the logic stores an AnswerCarrier: as its invoke id and its service.
abbrev pub answer_code : Coded AnswerCarrier
answer_code = code_by (ℕ × Service) (coded× coded_ℕ service_row.coded) (λ s. (s.invoke, s.service)) (λ p. record { invoke = p.0; service = p.1 }) (λ s. refl)
