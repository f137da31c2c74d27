-- The fields of properties, their values, and why they have none (clause 21).
use Rattle.std.specs.Prelude.{ℕ, Option, List, [], ◌∷◌, ◌++◌}
use Rattle.bac_service.specs.declared.service.error_cause.ErrorCause.{ErrorCause}
use Rattle.bac_service.specs.declared.service.property_reference.PropertyReference.{PropertyReference}
use Rattle.bac_service.specs.declared.service.property_result.ReadResult.{ReadResult}
use Rattle.bac_service.specs.declared.service.property_result.ReadResult.TheVariants.{Value, Error}
use Rattle.bac_service.specs.declared.service.property_result.PropertyResult.{PropertyResult}
use Rattle.bac_service.specs.declared.service.property_value.PropertyValue.{PropertyValue}
use Rattle.bac_field_parts.specs.declared.names.Name.TheVariants as name
use Rattle.bac_field_parts.specs.Fields.{Step, next, optional, opening_field, closing_field}
use Rattle.bac_field_parts.specs.PrimitiveFields.{number_under, enumerated_field}
use Rattle.bac_field_parts.specs.OpenValueFields.{open_steps}

-- The steps of a property under the first tag, and of its index under the second, if there is one. An index is there
-- where one element is meant.
abbrev pub property_steps : ℕ → ℕ → ℕ → Option ℕ → List Step
property_steps first second property index = next (number_under name.Property first property) ∷ optional (number_under name.Index second) index

-- The steps of the class and the code of an error.
abbrev pub cause_steps : ℕ → ℕ → List Step
cause_steps class code = next (enumerated_field name.ErrorClass class) ∷ next (enumerated_field name.ErrorCode code) ∷ []

-- The steps of a PropertyReference, under the tags 0 and 1.
abbrev pub reference_steps : PropertyReference → List Step
reference_steps reference = property_steps 0 1 reference.property reference.index

-- The steps of an error of a property, between tags with this number.
abbrev pub error_steps : ℕ → ErrorCause → List Step
error_steps tag cause =
    next (opening_field name.PropertyError tag 0) ∷ (cause_steps cause.class cause.code ++ next (closing_field name.PropertyErrorEnd tag 0) ∷ [])

-- The steps of a ReadResult: a value between the tags 4, or an error between the tags 5.
abbrev pub read_result_steps : ReadResult → List Step
read_result_steps (Value value) = open_steps 4 value
read_result_steps (Error cause) = error_steps 5 cause

-- The steps of a PropertyResult: a property and its index, and the result of reading it.
abbrev pub property_result_steps : PropertyResult → List Step
property_result_steps result = property_steps 2 3 result.property result.index ++ read_result_steps result.result

-- The steps of a PropertyValue: a property and its index, a value, and a priority, if there is one.
abbrev pub property_value_steps : PropertyValue → List Step
property_value_steps value =
    property_steps 0 1 value.property value.index ++ (open_steps 2 value.value ++ optional (number_under name.Priority 3) value.priority)
