-- The value of a property is its fields.
use Rattle.std.specs.Prelude.{ℕ, refl}
use Rattle.bac_tag.specs.Spelling.{Joined}
use Rattle.bac_data.specs.Spells.{SpellsOpen}
use Rattle.bac_productions.specs.Contents.{UnsignedField, PriorityField, EnumeratedPart, of_number}
use Rattle.bac_productions.specs.Productions.{Optional, IsRecordOf}
use Rattle.bac_service.specs.Laws.Joins.{joined_first, joined_last}
use Rattle.bac_service.specs.PropertyValue.{SpellsPropertyValue}

pub property_value_parts : (groups : ℕ) → IsRecordOf (Joined (Joined (EnumeratedPart 0) (Optional (UnsignedField 1))) (Joined (SpellsOpen groups 2) (Optional (PriorityField 3)))) (SpellsPropertyValue groups)
property_value_parts groups = record {
  fields = λ v. ((of_number v.property, v.index), (v.value, v.priority));
  of_fields = λ p. record { property = p.0.0.0; index = p.0.1; value = p.1.0; priority = p.1.1 };
  same = λ v. refl;
  split = λ v b s. joined_first s;
  joined = λ p b s. joined_last s;
}
