-- Frames that have a message in one piece.
use Rattle.std.proofs.Common.{◌≡◌, Option, Some, None, sym, ap, ◌∙◌}
use Rattle.bac_apdu.specs.declared.segment.SegHead.TheVariants.{Request, Ack}
use Rattle.bac_apdu.specs.Apdus.{ApduValue, confirmed_request, unconfirmed_request, simple_ack, complex_ack, segment_ack, error, reject, abort, segment}
use Rattle.bac_npdu_parts.specs.FrameHeads.{HeadValue, frame_with}
use Rattle.bac_npdu_parts.specs.Frames.{FrameValue, BodyValue, apdu, message}
use Rattle.bac_message.specs.Messages.{Message, head_of, message_by, message_in, message_of, frame_of}

found : (m n : Message) → (let o : Option Message = Some n in o) ≡ Some m → n ≡ m
found m n h = let e : Some n ≡ Some m = h in cc

lost : {A : Type 0} (m : Message) → (let o : Option Message = None in o) ≡ Some m → A
lost m h = absurd (let e : None ≡ Some m = h in cc)

frame_by : (h : HeadValue) (a : ApduValue) (m : Message) → message_by h a ≡ Some m → frame_with h (apdu a) ≡ frame_of m
frame_by h (confirmed_request head service) m e = ap frame_of (found m (record { frame = h; head = Request head; service = service }) e)
frame_by h (complex_ack invoke service) m e = ap frame_of (found m (record { frame = h; head = Ack invoke; service = service }) e)
frame_by h (unconfirmed_request service) m e = lost m e
frame_by h (simple_ack invoke choice) m e = lost m e
frame_by h (segment_ack invoke nak srv seq size) m e = lost m e
frame_by h (error invoke service) m e = lost m e
frame_by h (reject invoke reason) m e = lost m e
frame_by h (abort invoke srv reason) m e = lost m e
frame_by h (segment head seq size more choice piece) m e = lost m e

frame_in : (h : HeadValue) (b : BodyValue) (m : Message) → message_in h b ≡ Some m → frame_with h b ≡ frame_of m
frame_in h (apdu a) m e = frame_by h a m e
frame_in h (message x) m e = lost m e

-- A message is in one frame only.
pub one_frame : (f g : FrameValue) (m : Message) → message_of f ≡ Some m → message_of g ≡ Some m → f ≡ g
one_frame f g m d e = frame_in (head_of f) f.body m d ∙ sym (frame_in (head_of g) g.body m e)
