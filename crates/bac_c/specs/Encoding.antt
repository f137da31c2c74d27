-- What C gets of a frame that fields say.
use Rattle.std.specs.Prelude.{◌≡◌, ℕ, List, codes}
use Rattle.bac_tag.specs.Spelling.{IsLeast}
use Rattle.bac_npdu_parts.specs.Frames.{FrameValue, SpellsFrame}
use Rattle.bac_field_parts.specs.declared.field.Field.{Field}
use Rattle.bac_field_parts.specs.declared.field_refusal.FieldRefusal.{FieldRefusal}
use Rattle.bac_field_parts.specs.declared.field_refusal.FieldWhy.{FieldWhy}
use Rattle.bac_field_parts.specs.declared.field_refusal.FieldWhy.TheVariants.{Short, Trailing, Name, Number, Contents, OutOfMemory}
use Rattle.bac_fields.specs.Making.{AreFieldsOf, IsFieldStop}
use Rattle.bac_c.specs.declared.outcomes.Outcome.{Outcome}

-- The number of a reason for which fields are refused: 1, 2 or 12 to 15, as in enum bactool_why in include/bactool.h.
abbrev pub field_number_of : FieldWhy → ℕ
field_number_of Short = 1
field_number_of Trailing = 2
field_number_of Name = 13
field_number_of Number = 14
field_number_of Contents = 15
field_number_of OutOfMemory = 12

-- The name of a reason for which fields are refused.
abbrev pub field_name_of : FieldWhy → List ℕ
field_name_of Short = codes "Short"
field_name_of Trailing = codes "Trailing"
field_name_of Name = codes "Name"
field_name_of Number = codes "Number"
field_name_of Contents = codes "Contents"
field_name_of OutOfMemory = codes "OutOfMemory"

-- The outcome of a refusal of fields, which has only its reason and, as the place, the index of a field.
abbrev pub field_refused_as : FieldRefusal → Outcome
field_refused_as refusal = record { why = field_number_of refusal.why; place = refusal.index; count = 0; fields = 0 }

-- The fields say some frame, with their contents in the octets, and these are its canonical octets.
abbrev pub IsSaidBy : List ℕ → List Field → List ℕ → Type 0
IsSaidBy octets fields canonical = (frame : FrameValue) × AreFieldsOf octets fields frame × IsLeast (SpellsFrame frame) canonical

-- The outcome is that of a refusal which says why the fields are those of no frame, and which is the first field with which no
-- frame's fields continue.
abbrev pub TellsOfField : List ℕ → List Field → Outcome → Type 0
TellsOfField octets fields outcome = (refusal : FieldRefusal) × IsFieldStop octets fields refusal × (outcome ≡ field_refused_as refusal)
