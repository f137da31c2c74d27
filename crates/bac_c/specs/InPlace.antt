-- What is made of a frame where it is decoded: its canonical octets, and its fields.
use Rattle.std.specs.Prelude.{◌≡◌, ◌⊎◌, ℕ, ◌+◌, ◌*◌, ◌^◌, ◌<◌, ◌≤◌, Bool, true, false, Option, None, Some, List, length}
use Rattle.std.specs.declared.vec.Vec.{Vec}
use Rattle.std.specs.declared.alloc.Global.{Global}
use Rattle.bac_tag.specs.Spelling.{IsLeast, IsSpelling, HasMark}
use Rattle.bac_npdu_parts.specs.Frames.{FrameValue, SpellsFrame}
use Rattle.bac_field_parts.specs.declared.field.Field.{Field}
use Rattle.bac_fields.specs.FrameFields.{placed_fields, FrameFits}
use Rattle.bac_c.specs.declared.in_place.Decoded.{Decoded}
use Rattle.bac_c.specs.Outcomes.{IsFront}

-- The canonical octets of a frame, which are those passed or others that were made.
abbrev pub octets_or : List ℕ → Option (Vec ℕ Global) → List ℕ
octets_or octets None = octets
octets_or octets (Some others) = others.items

-- The fields of the frame are written, and room is enough for its canonical octets, of which there are size; or one of the two
-- buffers is too short, and nothing is written.
abbrev pub IsFilled : ℕ → ℕ → FrameValue → List Field → List Field → Bool → Type 0
IsFilled size room frame was are true = (size ≤ room) × IsFront (placed_fields frame) was are
IsFilled size room frame was are false = ((room < size) ⊎ (length was < length (placed_fields frame))) × (are ≡ was)

-- The octets spell a frame, whose canonical octets were made, unless they are those passed. Its fields are counted. They are
-- written, with capacity for so many canonical octets, or one of the two buffers is too short (IsFilled).
pub record IsInPlace (octets : List ℕ) (room : ℕ) (was are : List Field) (made : Decoded) : Type 0 where
  pub frame : FrameValue
  pub spelled : SpellsFrame frame octets
  pub is_least : IsLeast (SpellsFrame frame) (octets_or octets made.canonical)
  pub count : made.count ≡ length (placed_fields frame)
  pub filled : IsFilled (length (octets_or octets made.canonical)) room frame was are made.are_written

-- What IsInPlace says was made of the octets, or memory was refused to what they spell and nothing is written.
abbrev pub IsInPlaceIfSome : List ℕ → ℕ → List Field → List Field → Option Decoded → Type 0
IsInPlaceIfSome octets room was are None = (are ≡ was) × IsSpelling SpellsFrame octets
IsInPlaceIfSome octets room was are (Some made) = IsInPlace octets room was are made

-- ---- the same of any frame, before it is known that the octets spell it

-- There is capacity for two fields for each of size octets, and for two more. The fields of every frame with so many canonical
-- octets fit in that.
abbrev pub HasRoomFor : ℕ → List Field → Type 0
HasRoomFor size was = (2 * size + 2 ≤ length was) × (length was < 2 ^ 64)

-- The same as IsFilled, for any frame, before it is known that the octets spell it.
abbrev pub IsFilledIf : ℕ → ℕ → FrameValue → List Field → List Field → Bool → Type 0
IsFilledIf size room frame was are true =
    (size ≤ room) × ((length (placed_fields frame) ≤ length was) ⊎ HasRoomFor size was) × (length (placed_fields frame) ≤ length was → IsFront (placed_fields frame) was are)
IsFilledIf size room frame was are false = ((room < size) ⊎ (length was < length (placed_fields frame))) × (are ≡ was)

-- Octets without a mark are the canonical ones, and with a mark others are. It is not yet known that the octets spell the
-- frame.
abbrev pub IsCanonicalIf : FrameValue → List ℕ → Option ℕ → List ℕ → Type 0
IsCanonicalIf frame octets None canonical = canonical ≡ octets
IsCanonicalIf frame octets (Some place) canonical = IsLeast (SpellsFrame frame) canonical

-- What was made of any frame and mark, as in IsInPlaceIfSome, before it is known that the octets spell the frame. None means
-- that nothing is written, or that the frame does not fit (FrameFits).
abbrev pub IsMadeOf : List ℕ → ℕ → FrameValue → Option ℕ → List Field → List Field → Option Decoded → Type 0
IsMadeOf octets room frame mark was are None = (are ≡ was) ⊎ ((canonical : List ℕ) × IsCanonicalIf frame octets mark canonical × HasRoomFor (length canonical) was × (FrameFits frame → ⊥))
IsMadeOf octets room frame mark was are (Some made) =
    IsCanonicalIf frame octets mark (octets_or octets made.canonical) × (made.count ≡ length (placed_fields frame)) × IsFilledIf (length (octets_or octets made.canonical)) room frame was are made.are_written

-- What IsMadeOf says was made of a frame that the octets spell, with their mark.
abbrev pub IsMadeOfSome : List ℕ → ℕ → List Field → List Field → Option Decoded → Type 0
IsMadeOfSome octets room was are made = (frame : FrameValue) × (mark : Option ℕ) × SpellsFrame frame octets × HasMark (SpellsFrame frame) octets mark × IsMadeOf octets room frame mark was are made
