-- The symbols of APDUs, by their types, and the octets of their heads.
use Rattle.std.specs.Prelude.{ℕ, nat_eq, Bool, true, false, Option, None, Some, List, [], ◌∷◌, ◌++◌}
use Rattle.std.specs.Map.{lookup}
use Rattle.bac_tag.specs.HeadOctets.{Part, typed, limits, octet, window}
use Rattle.bac_service.specs.Services.{ServiceValue}
use Rattle.bac_apdu.specs.declared.confirmed_request.RequestHead.{RequestHead}
use Rattle.bac_apdu.specs.declared.segment.SegHead.TheVariants.{Request, Ack}
use Rattle.bac_apdu.specs.Apdus.{ApduValue, SpellsApdu}
use Rattle.bac_apdu.specs.Apdus as apdus
use Rattle.bac_field_parts.specs.declared.numbers.Nothing.{Nothing}
use Rattle.bac_fields.specs.ApduFields.{apdu_steps}
use Rattle.bac_field_parts.specs.Symbols.{Symbol, finished, steps_said}

-- The symbols of an APDU, to the end of the fields.
abbrev pub apdu_said : ApduValue → List Symbol
apdu_said apdu = steps_said (apdu_steps apdu) ++ finished ∷ []

-- ---- by type

-- The types of APDUs. Requests and answers in segments are types of their own.
pub data ApduType : Type 0 where
  confirmed_request unconfirmed_request simple_ack complex_ack segment_ack error reject abort request_segment ack_segment : ApduType

-- What a segment says of its piece: sequence number, window, whether more follow, service choice, and the piece.
abbrev pub PieceSaid : Type 0
PieceSaid = ℕ × (ℕ × (Bool × (ℕ × List ℕ)))

-- What an APDU of a type says.
abbrev pub SaidBy : ApduType → Type 0
SaidBy confirmed_request = RequestHead × ServiceValue
SaidBy unconfirmed_request = ServiceValue
SaidBy simple_ack = ℕ × ℕ
SaidBy complex_ack = ℕ × ServiceValue
SaidBy segment_ack = ℕ × (Bool × (Bool × (ℕ × ℕ)))
SaidBy error = ℕ × ServiceValue
SaidBy reject = ℕ × ℕ
SaidBy abort = ℕ × (Bool × ℕ)
SaidBy request_segment = RequestHead × PieceSaid
SaidBy ack_segment = ℕ × PieceSaid

-- The APDU of a type that says this.
abbrev pub apdu_of : (type : ApduType) → SaidBy type → ApduValue
apdu_of confirmed_request v = apdus.confirmed_request v.0 v.1
apdu_of unconfirmed_request v = apdus.unconfirmed_request v
apdu_of simple_ack v = apdus.simple_ack v.0 v.1
apdu_of complex_ack v = apdus.complex_ack v.0 v.1
apdu_of segment_ack v = apdus.segment_ack v.0 v.1.0 v.1.1.0 v.1.1.1.0 v.1.1.1.1
apdu_of error v = apdus.error v.0 v.1
apdu_of reject v = apdus.reject v.0 v.1
apdu_of abort v = apdus.abort v.0 v.1.0 v.1.1
apdu_of request_segment v = apdus.segment (Request v.0) v.1.0 v.1.1.0 v.1.1.1.0 v.1.1.1.1.0 v.1.1.1.1.1
apdu_of ack_segment v = apdus.segment (Ack v.0) v.1.0 v.1.1.0 v.1.1.1.0 v.1.1.1.1.0 v.1.1.1.1.1

-- The symbols of the APDU of a type that says this.
abbrev pub said_by : (type : ApduType) → SaidBy type → List Symbol
said_by type v = apdu_said (apdu_of type v)

-- The lists that spell the APDU of a type that says this.
abbrev pub SpellsBy : (type : ApduType) → SaidBy type → List ℕ → Type 0
SpellsBy type v = SpellsApdu (apdu_of type v)

-- The number of the name that an APDU of this type begins with.
abbrev pub first_name : ApduType → ℕ
first_name confirmed_request = 10
first_name unconfirmed_request = 11
first_name simple_ack = 12
first_name complex_ack = 13
first_name segment_ack = 14
first_name error = 15
first_name reject = 16
first_name abort = 17
first_name request_segment = 18
first_name ack_segment = 19

-- The numbers of the names that APDUs begin with, each with the type of the APDU.
abbrev pub types_named : List (ℕ × ApduType)
types_named =
    (10, confirmed_request) ∷ (11, unconfirmed_request) ∷ (12, simple_ack) ∷ (13, complex_ack) ∷ (14, segment_ack) ∷ (15, error) ∷ (16, reject) ∷ (17, abort)
    ∷ (18, request_segment) ∷ (19, ack_segment) ∷ []

-- The type of the APDUs that begin with the name of this number, or None if no APDU does.
abbrev pub type_named : ℕ → Option ApduType
type_named name = lookup (λ n. nat_eq n name) types_named

-- The leads of APDUs, which are the numbers of the names that they begin with.
abbrev pub apdu_leads : List (Option ℕ)
apdu_leads = Some 10 ∷ Some 11 ∷ Some 12 ∷ Some 13 ∷ Some 14 ∷ Some 15 ∷ Some 16 ∷ Some 17 ∷ Some 18 ∷ Some 19 ∷ []

-- ---- the numbers that fields say before a head is written, and the octets of the head before the service choice

-- The numbers of the head of a request: invoke id, whether a segmented answer is accepted, max-segments, max-response.
abbrev pub RequestNumbers : Type 0
RequestNumbers = ℕ × (Bool × (ℕ × ℕ))

-- The numbers of a segment: sequence number, window, whether more follow, service choice. Before them are the word, and the
-- numbers of a request or the invoke id of an answer.
abbrev pub SegmentNumbers : Type 0
SegmentNumbers = ℕ × (ℕ × (Bool × ℕ))

-- The octets of the head of a Confirmed-Request in one piece, before the service choice.
abbrev pub confirmed_request_front : Nothing × RequestNumbers → List Part
confirmed_request_front v = typed 0 (Some false) None (Some v.1.1.0) None ∷ limits v.1.1.1.0 v.1.1.1.1 ∷ octet v.1.0 ∷ []

-- The octets of the head of an Unconfirmed-Request, before the service choice.
abbrev pub unconfirmed_request_front : Nothing → List Part
unconfirmed_request_front v = typed 1 None None None None ∷ []

-- The octets of a SimpleACK, of which the last is the service choice.
abbrev pub simple_ack_front : Nothing × (ℕ × ℕ) → List Part
simple_ack_front v = typed 2 None None None None ∷ octet v.1.0 ∷ octet v.1.1 ∷ []

-- The octets of the head of a ComplexACK in one piece, before the service choice.
abbrev pub complex_ack_front : Nothing × ℕ → List Part
complex_ack_front v = typed 3 (Some false) None None None ∷ octet v.1 ∷ []

-- The octets of a SegmentACK.
abbrev pub segment_ack_front : Nothing × (ℕ × (Bool × (Bool × (ℕ × ℕ)))) → List Part
segment_ack_front v = typed 4 None None (Some v.1.1.0) (Some v.1.1.1.0) ∷ octet v.1.0 ∷ octet v.1.1.1.1.0 ∷ window v.1.1.1.1.1 ∷ []

-- The octets of the head of an Error, before the service choice.
abbrev pub error_front : Nothing × ℕ → List Part
error_front v = typed 5 None None None None ∷ octet v.1 ∷ []

-- The octets of a Reject.
abbrev pub reject_front : Nothing × (ℕ × ℕ) → List Part
reject_front v = typed 6 None None None None ∷ octet v.1.0 ∷ octet v.1.1 ∷ []

-- The octets of an Abort.
abbrev pub abort_front : Nothing × (ℕ × (Bool × ℕ)) → List Part
abort_front v = typed 7 None None None (Some v.1.1.0) ∷ octet v.1.0 ∷ octet v.1.1.1 ∷ []

-- The octets of the head of a segment of a request, of which the last is the service choice.
abbrev pub request_segment_front : Nothing × (RequestNumbers × SegmentNumbers) → List Part
request_segment_front v =
    typed 0 (Some true) (Some v.1.1.1.1.0) (Some v.1.0.1.0) None ∷ limits v.1.0.1.1.0 v.1.0.1.1.1 ∷ octet v.1.0.0 ∷ octet v.1.1.0 ∷ window v.1.1.1.0 ∷ octet v.1.1.1.1.1 ∷ []

-- The octets of the head of a segment of an answer, of which the last is the service choice.
abbrev pub ack_segment_front : Nothing × (ℕ × SegmentNumbers) → List Part
ack_segment_front v = typed 3 (Some true) (Some v.1.1.1.1.0) None None ∷ octet v.1.0 ∷ octet v.1.1.0 ∷ window v.1.1.1.0 ∷ octet v.1.1.1.1.1 ∷ []
