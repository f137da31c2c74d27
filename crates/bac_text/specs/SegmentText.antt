-- The text of segments, and of acknowledgements of segments.
use Rattle.std.specs.Prelude.{ℕ, Bool, List, ◌++◌}
use Rattle.bac_apdu.specs.declared.segment.SegHead.{SegHead}
use Rattle.bac_apdu.specs.declared.segment.SegHead.TheVariants.{Request, Ack}
use Rattle.bac_record.specs.Digits.{hexadecimal}
use Rattle.bac_text.specs.Words.{number, truth, field}
use Rattle.bac_text.specs.RequestText.{request_head_text}

-- The text of the head of a segment: that of a request, or the invoke id of a ComplexACK.
abbrev pub segment_head_text : SegHead → List ℕ
segment_head_text (Request head) = field "conf-seg id=" (request_head_text head)
segment_head_text (Ack invoke) = field "ack-seg id=" (number invoke)

-- The text of a segment: its head, its number, its window, whether others follow, its choice and its octets.
abbrev pub segment_text : SegHead → ℕ → ℕ → Bool → ℕ → List ℕ → List ℕ
segment_text head seq window more choice piece =
    segment_head_text head ++ field " seq=" (number seq) ++ field " win=" (number window) ++ field " more=" (truth more) ++ field " choice=" (number choice)
    ++ field " octets=" (hexadecimal piece)

-- The text of a SegmentACK: the invoke id, whether a segment was received out of order, whether the server sent it,
-- the number and the window.
abbrev pub segment_ack_text : ℕ → Bool → Bool → ℕ → ℕ → List ℕ
segment_ack_text invoke nak srv seq window =
    field "segack id=" (number invoke) ++ field " nak=" (truth nak) ++ field " srv=" (truth srv) ++ field " seq=" (number seq) ++ field " win=" (number window)
