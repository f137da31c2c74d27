-- What making the octets of all the fields gives. These definitions are of any part that ends with the fields (EndsWithThem).
-- They take what the part says and what spells it as said and spells.
use Rattle.std.specs.Prelude.{◌≡◌, ◌≢◌, ◌↔◌, ℕ, ◌+◌, ◌<◌, ◌≤◌, Bool, true, Some, List, [], ◌∷◌, ◌++◌, length, take, slice_get}
use Rattle.bac_tag.specs.Spelling.{AppendsLeast, IsViable}
use Rattle.bac_field_parts.specs.declared.field.Field.{Field}
use Rattle.bac_field_parts.specs.declared.field_refusal.FieldRefusal.{FieldRefusal}
use Rattle.bac_field_parts.specs.declared.field_refusal.FieldWhy.{FieldWhy}
use Rattle.bac_field_parts.specs.declared.field_refusal.FieldWhy.TheVariants.{Short, Trailing, Name, Number, Contents, OutOfMemory}
use Rattle.bac_field_parts.specs.declared.making.Part.{Part}
use Rattle.bac_field_parts.specs.declared.making.Part.TheVariants as part
use Rattle.bac_field_parts.specs.Symbols.{Symbol, named, numbered, containing, finished, contents_in, symbols_in, Language}

-- The part ends with the fields: what it says ends with the symbol after the last field.
pub record EndsWithThem {V : Type 0} (at_end : Bool) (said : V → List Symbol) : Type 0 where
  pub is_at_end : at_end ≡ true
  pub last : (v : V) → (front : List Symbol) × (said v ≡ front ++ finished ∷ [])

-- The fields are all that some value says.
abbrev pub AreAllOfOne : {V : Type 0} → (V → List Symbol) → (V → List ℕ → Type 0) → List ℕ → List Field → Type 0
AreAllOfOne said spells octets fields = Language said spells tt (symbols_in octets fields)

-- The symbols of fields, without the one after the last field.
abbrev pub field_symbols : List ℕ → List Field → List Symbol
field_symbols octets [] = []
field_symbols octets (field ∷ fields) = named field.name ∷ numbered field.number ∷ containing (contents_in octets field) ∷ field_symbols octets fields

-- The fields are the first ones of what some value says (field_symbols).
abbrev pub BeginOne : {V : Type 0} → (V → List Symbol) → (V → List ℕ → Type 0) → List ℕ → List Field → Type 0
BeginOne said spells octets fields = IsViable (Language said spells) (field_symbols octets fields)

-- All the fields say a value, and its canonical octets are appended.
pub record MadeOfAll {V : Type 0} (said : V → List Symbol) (spells : V → List ℕ → Type 0) (octets : List ℕ) (fields : List Field) (old new : List ℕ) : Type 0 where
  pub value : V
  pub is_said : symbols_in octets fields ≡ said value
  pub appended : AppendsLeast (spells value) old new

-- The reason if this part of a field is hopeless: its name, its number or its contents.
abbrev pub why_of : Part → FieldWhy
why_of part.Name = Name
why_of part.Number = Number
why_of part.Contents = Contents

-- What a field says before this part of it.
abbrev pub before_part : Part → List ℕ → Field → List Symbol
before_part part.Name octets field = []
before_part part.Number octets field = named field.name ∷ []
before_part part.Contents octets field = named field.name ∷ numbered field.number ∷ []

-- What a field says up to this part of it, with the part.
abbrev pub through_part : Part → List ℕ → Field → List Symbol
through_part part.Name octets field = named field.name ∷ []
through_part part.Number octets field = named field.name ∷ numbered field.number ∷ []
through_part part.Contents octets field = named field.name ∷ numbered field.number ∷ containing (contents_in octets field) ∷ []

-- The part is the first one of the field with which no value continues. The fields before, and what the field says before the
-- part, begin what some value says. With the part they do not.
pub record IsHopeless {V : Type 0} (said : V → List Symbol) (spells : V → List ℕ → Type 0) (octets : List ℕ) (before : List Field) (field : Field) (hopeless : Part) : Type 0 where
  pub begins : IsViable (Language said spells) (field_symbols octets before ++ before_part hopeless octets field)
  pub ends : IsViable (Language said spells) (field_symbols octets before ++ through_part hopeless octets field) → ⊥

-- The fields say no value. Those before the index begin what some value says, and with the one at the index they do not:
-- its name, its number or its contents is hopeless. Short is reported exactly if the index is the number of the fields.
-- Trailing is reported exactly if there are more, the fields before the index are all of some value, and none continues with
-- a field of this name. Otherwise what is hopeless is reported (why_of).
pub record IsStopOf {V : Type 0} (said : V → List Symbol) (spells : V → List ℕ → Type 0) (octets : List ℕ) (fields : List Field) (refusal : FieldRefusal) : Type 0 where
  pub none : AreAllOfOne said spells octets fields → ⊥
  pub within : refusal.index ≤ length fields
  pub begins : BeginOne said spells octets (take refusal.index fields)
  pub ends : refusal.index < length fields → BeginOne said spells octets (take (refusal.index + 1) fields) → ⊥
  pub hopeless : Part
  pub stop : (field : Field) → Some field ≡ slice_get fields refusal.index → IsHopeless said spells octets (take refusal.index fields) field hopeless
  pub short : (refusal.why ≡ Short) ↔ (refusal.index ≡ length fields)
  pub trailing : (refusal.why ≡ Trailing) ↔ ((refusal.index < length fields) × AreAllOfOne said spells octets (take refusal.index fields) × (hopeless ≡ part.Name))
  pub others : refusal.why ≢ Short → refusal.why ≢ Trailing → refusal.why ≡ why_of hopeless

-- The fields say no value (IsStopOf), or memory was refused, and then the index is 0.
pub record IsRefusalOf {V : Type 0} (said : V → List Symbol) (spells : V → List ℕ → Type 0) (octets : List ℕ) (fields : List Field) (refusal : FieldRefusal) : Type 0 where
  pub stopped : refusal.why ≢ OutOfMemory → IsStopOf said spells octets fields refusal
  pub memory : refusal.why ≡ OutOfMemory → refusal.index ≡ 0
