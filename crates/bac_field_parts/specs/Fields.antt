-- Fields: what each says, and the octets that say it.
use Rattle.std.specs.Prelude.{◌≡◌, ◌<◌, ◌^◌, ℕ, ◌+◌, ◌/◌, ◌%◌, Bool, true, false, List, [], ◌∷◌, ◌++◌, length, nat_lt, if◌then◌else◌, slice_set, Option, IfSome, MatchOption}
use Rattle.std.specs.List.{flat_map}
use Rattle.std.specs.Option.{option_map_or}
use Rattle.bac_tag.specs.Writing.{narrow_head, narrow_opening}
use Rattle.bac_field_parts.specs.declared.names.Name.{Name}
use Rattle.bac_field_parts.specs.declared.names.Name.TheVariants.{Item, ItemEnd, ListEnd}
use Rattle.bac_field_parts.specs.declared.field.Field.{Field}
use Rattle.bac_field_parts.specs.declared.cursor.Cursor.{Cursor}
use Rattle.bac_field_parts.specs.Names.{number_of}

-- What a field says, and its octets: a name, a number, the octets before the contents, and the contents.
pub record FieldValue : Type 0 where
  pub name : Name
  pub number : ℕ
  pub head : List ℕ
  pub contents : List ℕ

-- ---- the forms of fields

-- A field that is a word, without octets of its own.
abbrev pub word : Name → FieldValue
word name = record { name = name; number = 0; head = []; contents = [] }

-- A field that is a number of one octet.
abbrev pub octet_field : Name → ℕ → FieldValue
octet_field name octet = record { name = name; number = octet; head = []; contents = octet ∷ [] }

-- A field that is a number of two octets, the higher first.
abbrev pub two_octets_field : Name → ℕ → FieldValue
two_octets_field name number = record { name = name; number = number; head = []; contents = (number / 256) ∷ (number % 256) ∷ [] }

-- A field that is octets as they are.
abbrev pub octets_field : Name → List ℕ → FieldValue
octets_field name octets = record { name = name; number = 0; head = []; contents = octets }

-- A field that is octets after their number.
abbrev pub counted_field : Name → List ℕ → FieldValue
counted_field name octets = record { name = name; number = 0; head = length octets ∷ []; contents = octets }

-- A field that is only the number of the items of a list, with which the list begins.
abbrev pub counter_field : Name → ℕ → FieldValue
counter_field name count = record { name = name; number = 0; head = count ∷ []; contents = [] }

-- A field that is contents under a context tag.
abbrev pub under_tag : Name → ℕ → ℕ → List ℕ → FieldValue
under_tag name tag number octets = record { name = name; number = number; head = narrow_head 1 tag (length octets); contents = octets }

-- A field that is contents under the application tag of a type.
abbrev pub under_type : Name → ℕ → ℕ → List ℕ → FieldValue
under_type name type number octets = record { name = name; number = number; head = narrow_head 0 type (length octets); contents = octets }

-- A field that is only an opening tag, of context class.
abbrev pub opening_field : Name → ℕ → ℕ → FieldValue
opening_field name tag number = record { name = name; number = number; head = narrow_opening 1 tag 6; contents = [] }

-- A field that is only a closing tag, of context class.
abbrev pub closing_field : Name → ℕ → ℕ → FieldValue
closing_field name tag number = record { name = name; number = number; head = narrow_opening 1 tag 7; contents = [] }

-- A field that is an opening tag if opens is true, and otherwise a closing tag.
abbrev pub edge_field : (opens : Bool) → Name → ℕ → ℕ → FieldValue
edge_field true name tag number = opening_field name tag number
edge_field false name tag number = closing_field name tag number

-- A field that is a number which an octet of the head of a frame or of an APDU holds, by itself or with others.
abbrev pub held_field : Name → ℕ → FieldValue
held_field name number = record { name = name; number = number; head = []; contents = [] }

-- A field that is a network, and an address on it after the number of its octets.
abbrev pub address_field : Name → ℕ → List ℕ → FieldValue
address_field name network address =
    record { name = name; number = network; head = (network / 256) ∷ (network % 256) ∷ length address ∷ []; contents = address }

-- ---- where the octets of fields are

-- A step through the octets of fields, of one of three kinds. next is a field whose octets come next. aside is a number that
-- the octet holds which is so many octets further. pass is so many octets that hold only such numbers, or belong to no field.
pub data Step : Type 0 where
  next : FieldValue → Step
  aside : ℕ → Name → ℕ → Step
  pass : ℕ → Step

-- How many octets a field has.
abbrev pub size_of : FieldValue → ℕ
size_of v = length v.head + length v.contents

-- The fields of steps.
abbrev pub fields_of : List Step → List FieldValue
fields_of [] = []
fields_of (next v ∷ steps) = v ∷ fields_of steps
fields_of (aside n name number ∷ steps) = held_field name number ∷ fields_of steps
fields_of (pass n ∷ steps) = fields_of steps

-- A field as a program sees it, its first octet at a place. It is the name, the number, the place, and how many octets the
-- head and the contents have.
abbrev pub field_at : ℕ → FieldValue → Field
field_at place v = record { name = number_of v.name; number = v.number; place = place; head = length v.head; length = length v.contents }

-- A field as a program sees it, of a number that the octet at a place holds.
abbrev pub held_at : ℕ → Name → ℕ → Field
held_at place name number = record { name = number_of name; number = number; place = place; head = 0; length = 1 }

-- The fields of steps as a program sees them, from a place on. Each is as name, number, place, and how many octets its head and
-- its contents have (field_at, and held_at for a number in an octet further).
abbrev pub placed : ℕ → List Step → List Field
placed place [] = []
placed place (next v ∷ steps) = field_at place v ∷ placed (place + size_of v) steps
placed place (aside n name number ∷ steps) = held_at (place + n) name number ∷ placed place steps
placed place (pass n ∷ steps) = placed (place + n) steps

-- The steps of an item of a list, between its ends.
abbrev pub item_steps : {X : Type 0} → (X → List Step) → X → List Step
item_steps steps x = next (word Item) ∷ (steps x ++ next (word ItemEnd) ∷ [])

-- The steps of a part that may be absent.
abbrev pub optional : {X : Type 0} → (X → FieldValue) → Option X → List Step
optional field part = option_map_or (λ x. next (field x) ∷ []) part []

-- The steps of a list without tags.
abbrev pub listed : {X : Type 0} → Name → (X → List Step) → List X → List Step
listed name steps items = next (word name) ∷ (flat_map (item_steps steps) items ++ next (word ListEnd) ∷ [])

-- The steps of a list between tags with this number.
abbrev pub listed_in : {X : Type 0} → Name → ℕ → (X → List Step) → List X → List Step
listed_in name tag steps items = next (opening_field name tag 0) ∷ (flat_map (item_steps steps) items ++ next (closing_field ListEnd tag 0) ∷ [])

-- ---- what is written

-- How far the writing of fields has come: a buffer for fields, how many are written or would be if the buffer were longer, and
-- the place of the next step.
pub record Pen : Type 0 where
  pub room : List Field
  pub count : ℕ
  pub place : ℕ

-- The buffer with a field at an index, if it is long enough, and otherwise as it is.
abbrev pub room_with : List Field → ℕ → Field → List Field
room_with room at field = if nat_lt at (length room) then slice_set room at field else room

-- The pen after one more step.
abbrev pub with_step : Pen → Step → Pen
with_step pen (next v) = record { room = room_with pen.room pen.count (field_at pen.place v); count = pen.count + 1; place = pen.place + size_of v }
with_step pen (aside n name number) = record { room = room_with pen.room pen.count (held_at (pen.place + n) name number); count = pen.count + 1; place = pen.place }
with_step pen (pass n) = record { room = pen.room; count = pen.count; place = pen.place + n }

-- The pen after these steps, one after another.
abbrev pub told : Pen → List Step → Pen
told pen [] = pen
told pen (step ∷ steps) = told (with_step pen step) steps

-- The pen of a buffer and of a cursor, which says where the next field goes.
abbrev pub pen_of : List Field → Cursor → Pen
pen_of room cursor = record { room = room; count = cursor.count; place = cursor.place }

-- Each number of a step fits in a usize: how many fields are written, and each place.
abbrev pub StepFits : Pen → Step → Type 0
StepFits pen (next v) = (pen.count + 1 < 2 ^ 64) × (pen.place + size_of v < 2 ^ 64)
StepFits pen (aside n name number) = (pen.count + 1 < 2 ^ 64) × (pen.place + n < 2 ^ 64)
StepFits pen (pass n) = pen.place + n < 2 ^ 64

-- Each number of these steps, one after another, fits in a usize.
abbrev pub Fits : Pen → List Step → Type 0
Fits pen [] = Unit {0}
Fits pen (step ∷ steps) = StepFits pen step × Fits (with_step pen step) steps

-- What a call that writes the fields of steps leaves in the buffer, and where the next field goes. It returns None exactly if
-- some number does not fit in a usize.
pub record Writes (steps : List Step) (old : List Field) (cursor : Cursor) (new : List Field) (end : Option Cursor) : Type 0 where
  pub pen : IfSome end (λ e. pen_of new e ≡ told (pen_of old cursor) steps)
  pub fits : MatchOption end (Fits (pen_of old cursor) steps → ⊥) (λ e. Fits (pen_of old cursor) steps)
