-- What WritePropertyMultiple writes to an object (clause 21): [0] the object, [1] a group with the values.
use Rattle.std.specs.Prelude.{ℕ, List, refl}
use Rattle.bac_tag.specs.Spelling.{Joins, Joined}
use Rattle.bac_value.specs.Identifier.{Identifier}
use Rattle.bac_productions.specs.Contents.{ObjectField}
use Rattle.bac_productions.specs.Productions.{Items, Grouped, IsRecordOf}
use Rattle.bac_service.specs.declared.service.property_value.PropertyValue.{PropertyValue}
use Rattle.bac_service.specs.declared.service.write_property_multiple.WriteAccessSpecification.{WriteAccessSpecification}
use Rattle.bac_service.specs.PropertyValue.{SpellsPropertyValue}

-- An object and a list of values of its properties.
pub record WriteSpecification : Type 0 where
  pub object : Identifier
  pub values : List PropertyValue

-- The WriteSpecification that a WriteAccessSpecification holds.
abbrev pub write_specification_of : WriteAccessSpecification → WriteSpecification
write_specification_of s = record { object = s.object; values = s.values.items }

-- The lists that spell a WriteSpecification: the object, and a group with the values. The first argument is how many
-- groups may nest in an open value.
abbrev pub SpellsWriteSpecification : ℕ → WriteSpecification → List ℕ → Type 0
SpellsWriteSpecification groups s = Joins (ObjectField 0 s.object) (Grouped 1 (Items (SpellsPropertyValue groups)) s.values)

-- A WriteSpecification is its fields, and is spelled as they are.
unfoldable pub write_specification_parts : (groups : ℕ) → IsRecordOf (Joined (ObjectField 0) (Grouped 1 (Items (SpellsPropertyValue groups)))) (SpellsWriteSpecification groups)
write_specification_parts groups = record {
  fields = λ s. (s.object, s.values);
  of_fields = λ p. record { object = p.0; values = p.1 };
  same = λ s. refl;
  split = λ s b h. h;
  joined = λ p b h. h;
}
