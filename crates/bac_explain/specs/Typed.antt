-- Which frames have a service with a production.
use Rattle.std.specs.Prelude.{Bool, false, is_some}
use Rattle.bac_apdu.specs.Apdus.{ApduValue, confirmed_request, unconfirmed_request, complex_ack, error}
use Rattle.bac_npdu_parts.specs.Frames.{BodyValue, apdu, message}

-- Whether an APDU has a service with a production.
abbrev pub is_typed_apdu : ApduValue → Bool
is_typed_apdu (confirmed_request head service) = is_some service.production
is_typed_apdu (unconfirmed_request service) = is_some service.production
is_typed_apdu (complex_ack invoke service) = is_some service.production
is_typed_apdu (error invoke service) = is_some service.production
is_typed_apdu _ = false

-- Whether a body has a service with a production.
abbrev pub is_typed : BodyValue → Bool
is_typed (apdu a) = is_typed_apdu a
is_typed (message m) = false
