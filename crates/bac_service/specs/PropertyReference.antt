-- References to properties (clause 21): [0] the property, [1] the index, which may be absent.
use Rattle.std.specs.Prelude.{ℕ, List, refl}
use Rattle.bac_tag.specs.Spelling.{Joins, Joined}
use Rattle.bac_productions.specs.Contents.{EnumeratedField, UnsignedField, EnumeratedPart, of_number}
use Rattle.bac_productions.specs.Productions.{Optional, IsRecordOf}
use Rattle.bac_service.specs.declared.service.property_reference.PropertyReference.{PropertyReference}

-- The lists that spell a reference to a property: the property, and the index if there is one.
abbrev pub SpellsPropertyReference : PropertyReference → List ℕ → Type 0
SpellsPropertyReference reference = Joins (EnumeratedField 0 reference.property) (Optional (UnsignedField 1) reference.index)

-- A reference to a property is its fields, and is spelled as they are.
pub property_reference_parts : IsRecordOf (Joined (EnumeratedPart 0) (Optional (UnsignedField 1))) SpellsPropertyReference
property_reference_parts = record {
  fields = λ r. (of_number r.property, r.index);
  of_fields = λ p. record { property = p.0.0; index = p.1 };
  same = λ r. refl;
  split = λ r b s. s;
  joined = λ p b s. s;
}
