-- Messages that may be sent in segments, as frames in one piece and as frames of segments (clauses 5.2 and 5.4).
use Rattle.std.specs.Prelude.{ℕ, true, Option, Some, None, List}
use Rattle.std.specs.List.{filter_map}
use Rattle.std.specs.Option.{option_map}
use Rattle.bac_service.specs.declared.kind.Kind.{Kind}
use Rattle.bac_service.specs.declared.kind.Kind.TheVariants.{Confirmed, ComplexAck}
use Rattle.bac_service.specs.Services.{ServiceValue, SpellsService}
use Rattle.bac_apdu.specs.declared.segment.SegHead.{SegHead}
use Rattle.bac_apdu.specs.declared.segment.SegHead.TheVariants.{Request, Ack}
use Rattle.bac_apdu.specs.Apdus.{ApduValue, confirmed_request, complex_ack, segment}
use Rattle.bac_npdu_parts.specs.Frames.{FrameValue, BodyValue, apdu}
use Rattle.bac_npdu_parts.specs.FrameHeads.{HeadValue, frame_with}
use Rattle.bac_segment.specs.Deliveries.{Delivery}

-- What is before the body of a frame.
abbrev pub head_of : FrameValue → HeadValue
head_of f = record { reply = f.reply; priority = f.priority; destination = f.destination; source = f.source }

-- ---- a frame in one piece

-- A Confirmed-Request or a ComplexACK with the head of its frame. The head of its APDU is that which each of its
-- segments has.
pub record Message : Type 0 where
  pub frame : HeadValue
  pub head : SegHead
  pub service : ServiceValue

-- The message that an APDU is under this head of a frame, or none if it is no Confirmed-Request or ComplexACK in one
-- piece.
abbrev pub message_by : HeadValue → ApduValue → Option Message
message_by h (confirmed_request head service) = Some (record { frame = h; head = Request head; service = service })
message_by h (complex_ack invoke service) = Some (record { frame = h; head = Ack invoke; service = service })
message_by h _ = None

-- The message that is the body of a frame with this head, or none.
abbrev pub message_in : HeadValue → BodyValue → Option Message
message_in h (apdu a) = message_by h a
message_in h _ = None

-- The message that a frame has in one piece, or none if it has none.
abbrev pub message_of : FrameValue → Option Message
message_of f = message_in (head_of f) f.body

-- The kind of the services of which there are segments with this head: Confirmed of a request, else ComplexAck.
abbrev pub kind_of : SegHead → Kind
kind_of (Request head) = Confirmed
kind_of (Ack invoke) = ComplexAck

-- The lists that spell the service of a message, under the kind of its head and the choice of the service.
abbrev pub SpellsContent : Message → List ℕ → Type 0
SpellsContent m = SpellsService true 32 (kind_of m.head) m.service.choice m.service

-- The APDU that has a service in one piece, with the head that its segments have.
abbrev pub apdu_with : SegHead → ServiceValue → ApduValue
apdu_with (Request head) service = confirmed_request head service
apdu_with (Ack invoke) service = complex_ack invoke service

-- The frame that has a message in one piece.
abbrev pub frame_of : Message → FrameValue
frame_of m = frame_with m.frame (apdu (apdu_with m.head m.service))

-- ---- a frame of a segment

-- The frame that has this head and a segment.
abbrev pub segment_frame : HeadValue → Delivery → FrameValue
segment_frame h s = frame_with h (apdu (segment s.head s.seq s.window s.more s.choice s.piece))

-- The segment that an APDU is, or none.
abbrev pub delivered_by : ApduValue → Option Delivery
delivered_by (segment head seq size more choice piece) =
    Some (record { head = head; window = size; choice = choice; seq = seq; more = more; piece = piece })
delivered_by _ = None

-- The segment that the body of a frame holds, or none.
abbrev pub delivered_in : BodyValue → Option Delivery
delivered_in (apdu a) = delivered_by a
delivered_in _ = None

-- The segment that a frame holds, or none.
abbrev pub delivered : FrameValue → Option Delivery
delivered f = delivered_in f.body

-- The segments that frames hold, in the order of the frames.
abbrev pub segments_in : List FrameValue → List Delivery
segments_in frames = filter_map delivered frames

-- What all segments of one message have in common: the head of the frame, the head of the APDU and the service choice.
-- Number, window and more-follows are not among it.
pub record Heads : Type 0 where
  pub frame : HeadValue
  pub head : SegHead
  pub choice : ℕ

-- What a frame with this segment has in common with those of the same message.
abbrev pub heads_with : HeadValue → Delivery → Heads
heads_with h s = record { frame = h; head = s.head; choice = s.choice }

-- What a frame has in common with those of the same message, or none if it holds no segment.
abbrev pub heads_of : FrameValue → Option Heads
heads_of f = option_map (λ s. heads_with (head_of f) s) (delivered f)

-- The message with these heads, and with this service.
abbrev pub message_with : Heads → ServiceValue → Message
message_with heads service = record { frame = heads.frame; head = heads.head; service = service }
