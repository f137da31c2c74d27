-- What reading a line gives.
use Rattle.std.specs.Prelude.{◌≡◌, ℕ, ◌+◌, ◌≤◌, List, ◌++◌, length, cond, nat_lt}
use Rattle.bac_tag.specs.Spelling.{AppendsLeast, IsLeast}
use Rattle.bac_npdu_parts.specs.Frames.{FrameValue, SpellsFrame}
use Rattle.bac_text.specs.FrameText.{text}
use Rattle.bac_field_parts.specs.declared.field.Field.{Field}
use Rattle.bac_fields.specs.Making.{AreFieldsOf}
use Rattle.bac_lines.specs.declared.fault.LineFault.{LineFault}
use Rattle.bac_lines.specs.declared.fault.LineFault.TheVariants.{OutOfMemory, Stop}

-- The line is the text of some frame, and its canonical octets are appended.
pub record IsRead (line old new : List ℕ) : Type 0 where
  pub frame : FrameValue
  pub is_line : line ≡ text frame
  pub appended : AppendsLeast (SpellsFrame frame) old new

-- The line is that of no other frame: of each frame whose text it is, and that has canonical octets, these are the octets that
-- were appended.
abbrev pub IsOnlyLine : List ℕ → List ℕ → List ℕ → Type 0
IsOnlyLine line old new = (frame : FrameValue) (octets : List ℕ) → IsLeast (SpellsFrame frame) octets → line ≡ text frame → new ≡ old ++ octets

-- Each frame whose text the line is, and that has canonical octets, is this frame.
abbrev pub IsOnlyFrame : List ℕ → FrameValue → Type 0
IsOnlyFrame line frame = (other : FrameValue) (octets : List ℕ) → IsLeast (SpellsFrame other) octets → line ≡ text other → other ≡ frame

-- Some octets spell the frame.
abbrev pub IsFrame : FrameValue → Type 0
IsFrame frame = (octets : List ℕ) × SpellsFrame frame octets

-- The line is the text of a frame that some octets spell, and the fields, with these contents, are those of that frame.
pub record SaysFrame (line contents : List ℕ) (fields : List Field) : Type 0 where
  pub frame : FrameValue
  pub is_frame : IsFrame frame
  pub is_line : line ≡ text frame
  pub are_fields : AreFieldsOf contents fields frame

-- The line is the text of no frame that has canonical octets.
abbrev pub IsNoLine : List ℕ → Type 0
IsNoLine line = (frame : FrameValue) (octets : List ℕ) → IsLeast (SpellsFrame frame) octets → line ≡ text frame → ⊥

-- If the fault has a place, P holds of the place.
abbrev pub IfStop : LineFault → (ℕ → Type 0) → Type 0
IfStop OutOfMemory P = Unit {0}
IfStop (Stop place) P = P place

-- The fault as it is seen so many octets earlier: its place is that much farther.
abbrev pub after : ℕ → LineFault → LineFault
after n OutOfMemory = OutOfMemory
after n (Stop place) = Stop (n + place)

-- The fault of the second of two parts, of which the first stops at this place, with the farther of the two places.
abbrev pub farther : ℕ → LineFault → LineFault
farther p OutOfMemory = OutOfMemory
farther p (Stop q) = Stop (cond (nat_lt p q) q p)

-- The fault is that memory was refused, or has a place in the line or at its end.
abbrev pub IsNear : List ℕ → LineFault → Type 0
IsNear line fault = IfStop fault (λ place. place ≤ length line)
