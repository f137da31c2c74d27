-- ReadProperty (clause 21): a reference to a property of an object.
use Rattle.std.specs.Prelude.{ℕ, List, refl}
use Rattle.bac_productions.specs.Productions.{IsRecordOf}
use Rattle.bac_productions.specs.Contents.{of_number}
use Rattle.bac_service.specs.declared.service.read_property.ReadProperty.{ReadProperty}
use Rattle.bac_service.specs.ObjectProperty.{SpellsObjectProperty, ObjectPropertyParts}

-- The lists that spell a ReadProperty, which is a reference to a property of an object.
abbrev pub SpellsReadProperty : ReadProperty → List ℕ → Type 0
SpellsReadProperty request = SpellsObjectProperty (request.object, (request.property, request.index))

-- A ReadProperty is its fields, and is spelled as they are.
pub read_property_parts : IsRecordOf ObjectPropertyParts SpellsReadProperty
read_property_parts = record {
  fields = λ r. (r.object, (of_number r.property, r.index));
  of_fields = λ p. record { object = p.0; property = p.1.0.0; index = p.1.1 };
  same = λ r. refl;
  split = λ r b s. s;
  joined = λ p b s. s;
}
