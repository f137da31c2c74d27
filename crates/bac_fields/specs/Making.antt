-- What making a frame of fields gives.
use Rattle.std.specs.Prelude.{◌≡◌, ℕ, List}
use Rattle.bac_tag.specs.Spelling.{AppendsLeast}
use Rattle.bac_npdu_parts.specs.Frames.{FrameValue, SpellsFrame}
use Rattle.bac_field_parts.specs.declared.field.Field.{Field}
use Rattle.bac_field_parts.specs.declared.field_refusal.FieldRefusal.{FieldRefusal}
use Rattle.bac_field_parts.specs.Symbols.{symbols_in}
use Rattle.bac_field_parts.specs.Refused.{IsStopOf, IsRefusalOf}
use Rattle.bac_fields.specs.FrameSymbols.{frame_said}

-- The fields are those of the frame. They have the same names and numbers in the same order, and the same contents where the
-- name of a field has contents.
abbrev pub AreFieldsOf : List ℕ → List Field → FrameValue → Type 0
AreFieldsOf octets fields frame = symbols_in octets fields ≡ frame_said frame

-- The fields are those of a frame, and its canonical octets are appended.
pub record MadeOf (octets : List ℕ) (fields : List Field) (old new : List ℕ) : Type 0 where
  pub frame : FrameValue
  pub are_fields : AreFieldsOf octets fields frame
  pub appended : AppendsLeast (SpellsFrame frame) old new

-- The fields are those of no frame. Those before the index begin the fields of some frame, and with the one at the index they
-- do not. It is IsStopOf for frames, which says which reason is reported.
abbrev pub IsFieldStop : List ℕ → List Field → FieldRefusal → Type 0
IsFieldStop = IsStopOf frame_said SpellsFrame

-- The fields are those of no frame (IsFieldStop), or memory was refused, and then the index is 0.
abbrev pub IsFieldRefusal : List ℕ → List Field → FieldRefusal → Type 0
IsFieldRefusal = IsRefusalOf frame_said SpellsFrame
