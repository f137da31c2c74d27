-- What is known of a frame, and of which frames it is so.
use Rattle.std.specs.Prelude.{◌≡◌, ℕ, ◌+◌, Option, None, length}
use Rattle.bac_apdu.specs.declared.segment.SegHead.TheVariants.{Request, Ack}
use Rattle.bac_apdu.specs.Apdus.{ApduValue, confirmed_request, unconfirmed_request, simple_ack, complex_ack, segment_ack, error, reject, abort, segment, head_of}
use Rattle.bac_npdu_parts.specs.Messages.{MessageValue, opaque, type_of}
use Rattle.bac_npdu_parts.specs.FrameHeads.{address_read, destination_read}
use Rattle.bac_npdu_parts.specs.Frames.{BodyValue, apdu, message, FrameValue, control_of, addresses_of}
use Rattle.bac_head.specs.declared.npci.Npci.{Npci}
use Rattle.bac_head.specs.declared.apdu_head.ApduHead.{ApduHead}
use Rattle.bac_head.specs.declared.apdu_head.ApduHead.TheVariants as head
use Rattle.bac_head.specs.declared.message_head.MessageHead.{MessageHead}
use Rattle.bac_head.specs.declared.known.PduHead.{PduHead}
use Rattle.bac_head.specs.declared.known.PduHead.TheVariants as pdu
use Rattle.bac_head.specs.declared.known.Known.{Known}
use Rattle.bac_head.specs.declared.known.Known.TheVariants as known
use Rattle.bac_head.specs.Saying.{control_value, message_head_size, apdu_head_size}

-- ---- the head of an APDU or of a network message

-- What the head of an APDU says.
abbrev pub apdu_head : ApduValue → ApduHead
apdu_head (confirmed_request request service) = head.ConfirmedRequest request.invoke service.choice
apdu_head (unconfirmed_request service) = head.UnconfirmedRequest service.choice
apdu_head (simple_ack invoke choice) = head.SimpleAck invoke choice
apdu_head (complex_ack invoke service) = head.ComplexAck invoke service.choice
apdu_head (segment_ack invoke nak srv seq size) = head.SegmentAck invoke nak srv seq size
apdu_head (error invoke service) = head.Error invoke service.choice
apdu_head (reject invoke reason) = head.Reject invoke reason
apdu_head (abort invoke srv reason) = head.Abort invoke srv reason
apdu_head (segment (Request request) seq size more choice piece) = head.RequestSegment (record { invoke = request.invoke; seq = seq; window = size; more = more; choice = choice })
apdu_head (segment (Ack invoke) seq size more choice piece) = head.AckSegment (record { invoke = invoke; seq = seq; window = size; more = more; choice = choice })

-- The vendor of a network message, or None if its type has none.
abbrev pub vendor_of : MessageValue → Option ℕ
vendor_of (opaque m) = m.vendor
vendor_of _ = None

-- What the head of a network message says.
abbrev pub message_head : MessageValue → MessageHead
message_head m = record { kind = type_of m; vendor = vendor_of m }

-- What the head of a body says: that of its APDU or of its network message.
abbrev pub pdu_head : BodyValue → PduHead
pdu_head (apdu a) = pdu.Apdu (apdu_head a)
pdu_head (message m) = pdu.Message (message_head m)

-- How many octets the head of a PDU has.
abbrev pub pdu_head_size : PduHead → ℕ
pdu_head_size (pdu.Apdu h) = apdu_head_size h
pdu_head_size (pdu.Message h) = message_head_size h

-- How many octets of a body are before its service, its piece of a segment, or the contents of its message.
abbrev pub body_head_size : BodyValue → ℕ
body_head_size (apdu a) = length (head_of a)
body_head_size (message m) = message_head_size (message_head m)

-- ---- what is known

-- From how many octets it is known what is known.
abbrev pub size_of : Known → ℕ
size_of known.Nothing = 0
size_of (known.Control control) = 2
size_of (known.Addresses npci) = npci.size
size_of (known.Pdu npci head size) = size

-- The frame has this control octet, this destination and this source, and so many octets before its body.
pub record IsNpciOf (f : FrameValue) (npci : Npci) : Type 0 where
  pub control : control_value npci.control ≡ control_of f
  pub destination : destination_read npci.destination ≡ f.destination
  pub source : address_read npci.source ≡ f.source
  pub size : npci.size ≡ 2 + length (addresses_of f)

-- What is known is so of the frame.
abbrev pub IsKnownOf : FrameValue → Known → Type 0
IsKnownOf f known.Nothing = Unit {0}
IsKnownOf f (known.Control control) = control_value control ≡ control_of f
IsKnownOf f (known.Addresses npci) = IsNpciOf f npci
IsKnownOf f (known.Pdu npci head size) = IsNpciOf f npci × (head ≡ pdu_head f.body) × (size ≡ npci.size + body_head_size f.body)

-- All that is before the contents of the PDU is known.
abbrev pub IsWhole : Known → Type 0
IsWhole (known.Pdu npci head size) = Unit {0}
IsWhole _ = ⊥
