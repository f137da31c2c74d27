-- What C gets of a line.
use Rattle.std.specs.Prelude.{◌≡◌, ℕ, ◌≤◌, ◌==◌, List, length, if◌then◌else◌}
use Rattle.bac_tag.specs.Spelling.{IsLeast}
use Rattle.bac_npdu_parts.specs.Frames.{FrameValue, SpellsFrame}
use Rattle.bac_text.specs.FrameText.{text}
use Rattle.bac_c.specs.declared.outcomes.Outcome.{Outcome}

-- The line is the text of some frame, and these are its canonical octets.
abbrev pub IsReadAs : List ℕ → List ℕ → Type 0
IsReadAs line canonical = (frame : FrameValue) × (line ≡ text frame) × IsLeast (SpellsFrame frame) canonical

-- The outcome of a line that is refused, which has only a place, and a reason: Short (1) if the place is the length of the
-- line, else Text (16), since no line continues so.
abbrev pub line_refused_as : ℕ → ℕ → Outcome
line_refused_as length place = record { why = if place == length then 1 else 16; place = place; count = 0; fields = 0 }

-- The outcome is that of a line that is refused at a place in it or at its end.
abbrev pub TellsOfLine : List ℕ → Outcome → Type 0
TellsOfLine line outcome = (place : ℕ) × (place ≤ length line) × (outcome ≡ line_refused_as (length line) place)
