-- WriteProperty (clause 21): the reference to a property of an object, [3] the value, [4] the priority, which may be
-- absent.
use Rattle.std.specs.Prelude.{ℕ, List, refl}
use Rattle.bac_tag.specs.Spelling.{Joins, Joined}
use Rattle.bac_data.specs.Spells.{SpellsOpen}
use Rattle.bac_productions.specs.Contents.{PriorityField, of_number}
use Rattle.bac_productions.specs.Productions.{Optional, IsRecordOf}
use Rattle.bac_service.specs.declared.service.write_property.WriteProperty.{WriteProperty}
use Rattle.bac_service.specs.ObjectProperty.{SpellsObjectProperty, ObjectPropertyParts}

-- The lists that spell a WriteProperty: the reference to a property of an object, the open value, and the priority if
-- there is one. The first argument is how many groups may nest in an open value.
abbrev pub SpellsWriteProperty : ℕ → WriteProperty → List ℕ → Type 0
SpellsWriteProperty groups request =
    Joins (SpellsObjectProperty (request.object, (request.property, request.index))) (Joins (SpellsOpen groups 3 request.value) (Optional (PriorityField 4) request.priority))

-- A WriteProperty is its fields, and is spelled as they are.
unfoldable pub write_property_parts : (groups : ℕ) → IsRecordOf (Joined ObjectPropertyParts (Joined (SpellsOpen groups 3) (Optional (PriorityField 4)))) (SpellsWriteProperty groups)
write_property_parts groups = record {
  fields = λ r. ((r.object, (of_number r.property, r.index)), (r.value, r.priority));
  of_fields = λ p. record { object = p.0.0; property = p.0.1.0.0; index = p.0.1.1; value = p.1.0; priority = p.1.1 };
  same = λ r. refl;
  split = λ r b s. s;
  joined = λ p b s. s;
}
