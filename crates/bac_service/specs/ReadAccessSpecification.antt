-- What ReadPropertyMultiple asks for of an object (clause 21): [0] the object, [1] a group with the references.
use Rattle.std.specs.Prelude.{ℕ, List, refl}
use Rattle.bac_tag.specs.Spelling.{Joins, Joined}
use Rattle.bac_value.specs.Identifier.{Identifier}
use Rattle.bac_productions.specs.Contents.{ObjectField}
use Rattle.bac_productions.specs.Productions.{Items, Grouped, IsRecordOf}
use Rattle.bac_service.specs.declared.service.property_reference.PropertyReference.{PropertyReference}
use Rattle.bac_service.specs.declared.service.read_property_multiple.ReadAccessSpecification.{ReadAccessSpecification}
use Rattle.bac_service.specs.PropertyReference.{SpellsPropertyReference}

-- An object and a list of references to its properties.
pub record Specification : Type 0 where
  pub object : Identifier
  pub properties : List PropertyReference

-- The Specification that a ReadAccessSpecification holds.
abbrev pub specification_of : ReadAccessSpecification → Specification
specification_of s = record { object = s.object; properties = s.properties.items }

-- The lists that spell a Specification: the object, and a group with the references.
abbrev pub SpellsSpecification : Specification → List ℕ → Type 0
SpellsSpecification s = Joins (ObjectField 0 s.object) (Grouped 1 (Items SpellsPropertyReference) s.properties)

-- A Specification is its fields, and is spelled as they are.
unfoldable pub specification_parts : IsRecordOf (Joined (ObjectField 0) (Grouped 1 (Items SpellsPropertyReference))) SpellsSpecification
specification_parts = record {
  fields = λ s. (s.object, s.properties);
  of_fields = λ p. record { object = p.0; properties = p.1 };
  same = λ s. refl;
  split = λ s b h. h;
  joined = λ p b h. h;
}
