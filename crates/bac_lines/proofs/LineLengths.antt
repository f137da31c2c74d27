-- How many octets the line of a record has.
use Rattle.std.proofs.Common.{ℕ, ◌<◌, List, ◌∷◌, length, ap, arith, inl, inr}
use Rattle.std.proofs.lemmas.List.{length-append}
use Rattle.bac_npdu_parts.specs.Frames.{FrameValue, SpellsFrame}
use Rattle.bac_record.specs.Records.{IsRecord}
use Rattle.bac_text.specs.FrameText.{text}
use Rattle.bac_text.specs.Words.{number}
use Rattle.bac_lines.specs.ShownLines.{LONGEST_LINE, IsNumbered}
use Rattle.bac_lines.proofs.ValueLengths.{ten_digits}
use Rattle.bac_lines.proofs.FrameLengths.{frame_short}

-- the text of a frame by itself, or after a number and a blank
pub line_short : (f : FrameValue) (b line : List ℕ) → SpellsFrame f b → IsRecord b → IsNumbered line (text f) → length line < LONGEST_LINE
line_short f b line s small (inl is) = omega (arith, frame_short f b s, small, ap length is)
line_short f b line s small (inr h) =
    let digits = ten_digits h.0 (omega (arith, h.2)) in
    omega (arith, digits, frame_short f b s, small, ap length h.3, length-append (number h.0) (32 ∷ text f))
