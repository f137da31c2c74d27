-- What reading a property gave (clause 21): [2] the property, [3] the index, which may be absent, then [4] the value,
-- or [5] a group with the error.
use Rattle.std.specs.Prelude.{ℕ, List, ◌⊎◌}
use Rattle.std.proofs.Common.{inl, inr}
use Rattle.bac_tag.specs.Spelling.{Joins}
use Rattle.bac_data.specs.OpenValue.{Elements}
use Rattle.bac_data.specs.Spells.{SpellsOpen}
use Rattle.bac_value.specs.declared.types.enumeration.Enumerated.{Enumerated}
use Rattle.bac_productions.specs.Contents.{EnumeratedField, UnsignedField}
use Rattle.bac_productions.specs.Productions.{Optional, Grouped}
use Rattle.bac_service.specs.declared.service.property_result.ReadResult.{ReadResult}
use Rattle.bac_service.specs.declared.service.property_result.ReadResult.TheVariants.{Value, Error}
use Rattle.bac_service.specs.declared.service.property_result.PropertyResult.{PropertyResult}
use Rattle.bac_service.specs.ErrorCause.{SpellsErrorCause}

-- The lists that spell the value of a property or why there is none: an open value, or a group with an error. The
-- first argument is how many groups may nest in an open value.
abbrev pub SpellsReadResult : ℕ → ReadResult → List ℕ → Type 0
SpellsReadResult groups (Value value) = SpellsOpen groups 4 value
SpellsReadResult groups (Error cause) = Grouped 5 SpellsErrorCause cause

-- The lists that spell what reading a property gave: the property, the index if there is one, and a SpellsReadResult.
-- The first argument is how many groups may nest in an open value.
abbrev pub SpellsPropertyResult : ℕ → PropertyResult → List ℕ → Type 0
SpellsPropertyResult groups r = Joins (EnumeratedField 2 r.property) (Joins (Optional (UnsignedField 3) r.index) (SpellsReadResult groups r.result))

-- The result that is made of a value, or of the class and the code of an error.
abbrev pub result_of_parts : Elements ⊎ (Enumerated × Enumerated) → ReadResult
result_of_parts (inl value) = Value value
result_of_parts (inr cause) = Error (record { class = cause.0.0; code = cause.1.0 })
