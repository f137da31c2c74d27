-- What C gets: numbers of reasons, outcomes, and when each code may be returned. An outcome has four numbers, and the number of
-- a member that does not apply to a code is 0.
use Rattle.std.specs.Prelude.{◌≡◌, ◌≢◌, ◌⊎◌, ℕ, ◌<◌, ◌++◌, Bool, IsTrue, List, length, drop}
use Rattle.bac_tag.specs.declared.refusals.Refusal.{Refusal}
use Rattle.bac_tag.specs.declared.refusals.Why.{Why}
use Rattle.bac_tag.specs.declared.refusals.Why.TheVariants.{Short, Trailing, Version, Address, PduType, Window, Tag, Length, Content, Depth, NotCanonical, OutOfMemory}
use Rattle.bac_tag.specs.Spelling.{IsLeast, IsWholeRefusal, IsCanonical as IsCanonicalOf}
use Rattle.bac_npdu_parts.specs.Frames.{FrameValue, SpellsFrame}
use Rattle.bac_npdu_parts.specs.Decoded.{IsReasoned}
use Rattle.bac_npdu.specs.Meanings.{IsFirstFlaw}
use Rattle.bac_text.specs.FrameText.{text}
use Rattle.bac_field_parts.specs.declared.field.Field.{Field}
use Rattle.bac_fields.specs.FrameFields.{placed_fields}
use Rattle.bac_c.specs.declared.outcomes.Outcome.{Outcome}

-- The number of a reason, 1 to 12, in the order of enum bactool_why in include/bactool.h.
abbrev pub number_of : Why → ℕ
number_of Short = 1
number_of Trailing = 2
number_of Version = 3
number_of Address = 4
number_of PduType = 5
number_of Window = 6
number_of Tag = 7
number_of Length = 8
number_of Content = 9
number_of Depth = 10
number_of NotCanonical = 11
number_of OutOfMemory = 12

-- ---- outcomes

-- The outcome of which all numbers are 0, since the code says all.
abbrev pub nothing : Outcome
nothing = record { why = 0; place = 0; count = 0; fields = 0 }

-- The outcome that has only a place.
abbrev pub differs_at : ℕ → Outcome
differs_at place = record { why = 0; place = place; count = 0; fields = 0 }

-- The outcome of a refusal, which has only its reason and its place.
abbrev pub refused_as : Refusal → Outcome
refused_as refusal = record { why = number_of refusal.why; place = refusal.place; count = 0; fields = 0 }

-- The outcome that has only a number of octets.
abbrev pub counted : ℕ → Outcome
counted count = record { why = 0; place = 0; count = count; fields = 0 }

-- The outcome that has a number of octets and one of fields.
abbrev pub decoded : ℕ → ℕ → Outcome
decoded count fields = record { why = 0; place = 0; count = count; fields = fields }

-- The outcome that memory was refused.
abbrev pub without_memory : Outcome
without_memory = record { why = number_of OutOfMemory; place = 0; count = 0; fields = 0 }

-- ---- refusals

-- The octets are canonical for some frame: the least of all that spell it, as in bac_tag.
abbrev pub IsCanonical : List ℕ → Type 0
IsCanonical octets = IsCanonicalOf SpellsFrame octets

-- The octets spell no frame, and the refusal says why and where they stop to begin one, but not that memory was refused.
pub record IsHopeless (octets : List ℕ) (refusal : Refusal) : Type 0 where
  pub refused : IsWholeRefusal SpellsFrame octets refusal
  pub reasoned : IsReasoned octets refusal
  pub memory : refusal.why ≢ OutOfMemory

-- The octets spell a frame, and the refusal says where they first differ from its canonical octets.
abbrev pub IsNotCanonical : List ℕ → Refusal → Type 0
IsNotCanonical octets refusal = IsFirstFlaw octets refusal.place × (refusal.why ≡ NotCanonical)

-- The octets are refused so: they are hopeless or, if asked to be strict, not canonical.
abbrev pub IsRefusedBy : Bool → List ℕ → Refusal → Type 0
IsRefusedBy strict octets refusal = IsHopeless octets refusal ⊎ (IsTrue strict × IsNotCanonical octets refusal)

-- The outcome is that of a refusal of the kind.
abbrev pub Tells : (Refusal → Type 0) → Outcome → Type 0
Tells Refuses outcome = (refusal : Refusal) × Refuses refusal × (outcome ≡ refused_as refusal)

-- ---- what is written

-- The line is the text of the frame that the octets spell.
abbrev pub IsTextOf : List ℕ → List ℕ → Type 0
IsTextOf octets line = (frame : FrameValue) × SpellsFrame frame octets × (line ≡ text frame)

-- The new list begins with octets of the kind that is wanted, what came after them in the old one is still there, and the
-- outcome has their number.
pub record IsWritten (Wanted : List ℕ → Type 0) (old new : List ℕ) (outcome : Outcome) : Type 0 where
  pub octets : List ℕ
  pub wanted : Wanted octets
  pub new_is : new ≡ octets ++ drop (length octets) old
  pub told : outcome ≡ counted (length octets)

-- There are octets of the kind that is wanted, the list is shorter than they are, and the outcome has their number.
pub record LacksRoom (Wanted : List ℕ → Type 0) (old : List ℕ) (outcome : Outcome) : Type 0 where
  pub octets : List ℕ
  pub wanted : Wanted octets
  pub lacking : length old < length octets
  pub told : outcome ≡ counted (length octets)

-- ---- fields

-- The octets spell a frame, these are its canonical octets and its fields, and the outcome has both numbers.
pub record IsTold (octets : List ℕ) (canonical : List ℕ) (fields : List Field) (outcome : Outcome) : Type 0 where
  pub frame : FrameValue
  pub spelled : SpellsFrame frame octets
  pub is_least : IsLeast (SpellsFrame frame) canonical
  pub fields_are : fields ≡ placed_fields frame
  pub told : outcome ≡ decoded (length canonical) (length fields)

-- The new list begins with these items, and what came after them in the old one is still there.
abbrev pub IsFront : {X : Type 0} → List X → List X → List X → Type 0
IsFront items old new = new ≡ items ++ drop (length items) old

-- The new lists begin with the canonical octets and the fields of the frame, and what came after them in the old ones is still
-- there. The outcome has both numbers.
pub record IsDecoded (octets : List ℕ) (old new : List ℕ) (was are : List Field) (outcome : Outcome) : Type 0 where
  pub canonical : List ℕ
  pub fields : List Field
  pub of_frame : IsTold octets canonical fields outcome
  pub new_is : IsFront canonical old new
  pub fields_are : IsFront fields was are

-- One of the two lists is shorter than what the frame has: its canonical octets, or its fields. The outcome has both numbers.
pub record LacksEither (octets : List ℕ) (old : List ℕ) (was : List Field) (outcome : Outcome) : Type 0 where
  pub canonical : List ℕ
  pub fields : List Field
  pub of_frame : IsTold octets canonical fields outcome
  pub lacking : (length old < length canonical) ⊎ (length was < length fields)
