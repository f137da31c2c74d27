-- The text of properties, of their values, and of why they have none.
use Rattle.std.specs.Prelude.{ℕ, Option, List, ◌++◌, codes}
use Rattle.bac_service.specs.declared.service.property_reference.PropertyReference.{PropertyReference}
use Rattle.bac_service.specs.declared.service.property_result.ReadResult.{ReadResult}
use Rattle.bac_service.specs.declared.service.property_result.ReadResult.TheVariants.{Value, Error}
use Rattle.bac_service.specs.declared.service.property_result.PropertyResult.{PropertyResult}
use Rattle.bac_service.specs.declared.service.property_value.PropertyValue.{PropertyValue}
use Rattle.bac_text.specs.Words.{number, field, optional}
use Rattle.bac_text.specs.OpenValueText.{open_text}

-- The number of a property, and the index if there is one, so if one element is meant.
abbrev pub property_text : ℕ → Option ℕ → List ℕ
property_text property index = number property ++ optional " index=" number index

-- The class and the code of an error.
abbrev pub cause_text : ℕ → ℕ → List ℕ
cause_text class code = number class ++ field " code=" (number code)

-- The text of a reference to a property, as an item of a list, in parentheses.
abbrev pub reference_text : PropertyReference → List ℕ
reference_text reference = field "(property=" (property_text reference.property reference.index) ++ codes ")"

-- The text of what reading a property gave: the value, or the class and the code of the error.
abbrev pub read_result_text : ReadResult → List ℕ
read_result_text (Value value) = field "value=" (open_text value)
read_result_text (Error cause) = field "error=(class=" (cause_text cause.class cause.code) ++ codes ")"

-- The text of a property and what reading it gave, as an item of a list, in parentheses.
abbrev pub property_result_text : PropertyResult → List ℕ
property_result_text result = field "(property=" (property_text result.property result.index) ++ field " " (read_result_text result.result) ++ codes ")"

-- The text of the value of a property, as an item of a list, in parentheses. It has the property, the value, and the
-- priority if there is one.
abbrev pub property_value_text : PropertyValue → List ℕ
property_value_text value =
    field "(property=" (property_text value.property value.index) ++ field " value=" (open_text value.value) ++ optional " priority=" number value.priority ++ codes ")"
