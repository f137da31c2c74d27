-- APDUs as values, and the lists that spell one (clause 20.1).
use Rattle.std.specs.Prelude.{◌≡◌, ℕ, Bool, true, List, []}
use Rattle.bac_tag.specs.Octets.{IsOctets}
use Rattle.bac_service.specs.declared.kind.Kind.{Kind}
use Rattle.bac_service.specs.declared.kind.Kind.TheVariants as kind
use Rattle.bac_service.specs.Services.{ServiceValue, value_of as service_of, SpellsService}
use Rattle.bac_apdu.specs.declared.confirmed_request.RequestHead.{RequestHead}
use Rattle.bac_apdu.specs.declared.segment.SegHead.{SegHead}
use Rattle.bac_apdu.specs.declared.apdu.Apdu.{Apdu}
use Rattle.bac_apdu.specs.declared.apdu.Apdu.TheVariants as held
use Rattle.bac_tag.specs.HeadOctets.{Part, Headed}
use Rattle.bac_apdu.specs.ConfirmedRequest.{confirmed_request_head}
use Rattle.bac_apdu.specs.UnconfirmedRequest.{unconfirmed_request_head}
use Rattle.bac_apdu.specs.SimpleAck.{simple_ack_head}
use Rattle.bac_apdu.specs.ComplexAck.{complex_ack_head}
use Rattle.bac_apdu.specs.SegmentAck.{segment_ack_head}
use Rattle.bac_apdu.specs.ErrorPdu.{error_head}
use Rattle.bac_apdu.specs.Reject.{reject_head}
use Rattle.bac_apdu.specs.Abort.{abort_head}
use Rattle.bac_apdu.specs.Segment.{segment_head}

-- An APDU as a value.
pub data ApduValue : Type 0 where
  confirmed_request : RequestHead → ServiceValue → ApduValue
  unconfirmed_request : ServiceValue → ApduValue
  -- invoke id, service choice
  simple_ack : ℕ → ℕ → ApduValue
  -- invoke id
  complex_ack : ℕ → ServiceValue → ApduValue
  -- invoke id, whether it is negative, whether a server sent it, sequence number, window
  segment_ack : ℕ → Bool → Bool → ℕ → ℕ → ApduValue
  -- invoke id
  error : ℕ → ServiceValue → ApduValue
  -- invoke id, reason
  reject : ℕ → ℕ → ApduValue
  -- invoke id, whether a server sent it, reason
  abort : ℕ → Bool → ℕ → ApduValue
  -- of what, sequence number, window, whether more follow, service choice, piece
  segment : SegHead → ℕ → ℕ → Bool → ℕ → List ℕ → ApduValue

-- The value of an APDU that a program holds.
abbrev pub value_of : Apdu → ApduValue
value_of (held.Confirmed request) = confirmed_request request.head (service_of request.service)
value_of (held.Unconfirmed request) = unconfirmed_request (service_of request)
value_of (held.SimpleAck invoke choice) = simple_ack invoke choice
value_of (held.ComplexAck ack) = complex_ack ack.invoke (service_of ack.service)
value_of (held.SegmentAck invoke nak srv seq size) = segment_ack invoke nak srv seq size
value_of (held.Error answer) = error answer.invoke (service_of answer.service)
value_of (held.Reject invoke reason) = reject invoke reason
value_of (held.Abort invoke srv reason) = abort invoke srv reason
value_of (held.Segment part) = segment part.head part.seq part.window part.more part.choice part.piece.items

-- The parts of the head of an APDU: the octets before the service, the piece or the end.
abbrev pub head_of : ApduValue → List Part
head_of (confirmed_request head service) = confirmed_request_head head service.choice
head_of (unconfirmed_request service) = unconfirmed_request_head service.choice
head_of (simple_ack invoke choice) = simple_ack_head invoke choice
head_of (complex_ack invoke service) = complex_ack_head invoke service.choice
head_of (segment_ack invoke nak srv seq size) = segment_ack_head invoke nak srv seq size
head_of (error invoke service) = error_head invoke service.choice
head_of (reject invoke reason) = reject_head invoke reason
head_of (abort invoke srv reason) = abort_head invoke srv reason
head_of (segment head seq size more choice piece) = segment_head head seq size more choice

-- The lists that spell a service of a kind, whatever its choice.
abbrev pub SpellsServiceOf : Kind → ServiceValue → List ℕ → Type 0
SpellsServiceOf of_kind service = SpellsService true 32 of_kind service.choice service

-- The lists that spell what is after the head of an APDU. It is a service of the kind that the APDU carries and of the
-- choice that its head has; or nothing; or the piece.
abbrev pub SpellsBody : ApduValue → List ℕ → Type 0
SpellsBody (confirmed_request head service) b = SpellsServiceOf kind.Confirmed service b
SpellsBody (unconfirmed_request service) b = SpellsServiceOf kind.Unconfirmed service b
SpellsBody (simple_ack invoke choice) b = b ≡ []
SpellsBody (complex_ack invoke service) b = SpellsServiceOf kind.ComplexAck service b
SpellsBody (segment_ack invoke nak srv seq size) b = b ≡ []
SpellsBody (error invoke service) b = SpellsServiceOf kind.Error service b
SpellsBody (reject invoke reason) b = b ≡ []
SpellsBody (abort invoke srv reason) b = b ≡ []
SpellsBody (segment head seq size more choice piece) b = (b ≡ piece) × IsOctets b

-- The lists that spell an APDU: its head, and after it its body.
abbrev pub SpellsApdu : ApduValue → List ℕ → Type 0
SpellsApdu apdu = Headed (head_of apdu) (SpellsBody apdu)

-- The APDU is a segment.
abbrev pub IsSegment : ApduValue → Type 0
IsSegment (segment head seq size more choice piece) = Unit {0}
IsSegment _ = ⊥
