-- Values of properties (clause 21): [0] the property, [1] the index, which may be absent, [2] the value, [3] the
-- priority, which may be absent.
use Rattle.std.specs.Prelude.{ℕ, List}
use Rattle.bac_tag.specs.Spelling.{Joins}
use Rattle.bac_data.specs.Spells.{SpellsOpen}
use Rattle.bac_productions.specs.Contents.{EnumeratedField, UnsignedField, PriorityField}
use Rattle.bac_productions.specs.Productions.{Optional}
use Rattle.bac_service.specs.declared.service.property_value.PropertyValue.{PropertyValue}

-- The lists that spell the value of a property: the property, the index if there is one, the open value, and the
-- priority if there is one. The first argument is how many groups may nest in an open value.
abbrev pub SpellsPropertyValue : ℕ → PropertyValue → List ℕ → Type 0
SpellsPropertyValue groups value =
    Joins (EnumeratedField 0 value.property) (Joins (Optional (UnsignedField 1) value.index) (
    Joins (SpellsOpen groups 2 value.value) (Optional (PriorityField 3) value.priority)
    ))
