-- The fields of WritePropertyMultiple and of its error (clause 15.10).
use Rattle.std.specs.Prelude.{List, [], ◌∷◌, ◌++◌}
use Rattle.bac_service.specs.WriteAccessSpecification.{WriteSpecification}
use Rattle.bac_service.specs.declared.service.write_property_multiple_error.WritePropertyMultipleError.{WritePropertyMultipleError}
use Rattle.bac_field_parts.specs.declared.names.Name.TheVariants as name
use Rattle.bac_field_parts.specs.Fields.{Step, next, pass, octet_field, listed, listed_in}
use Rattle.bac_field_parts.specs.PrimitiveFields.{object_under}
use Rattle.bac_fields.specs.PropertyFields.{property_steps, cause_steps, property_value_steps}

-- The steps of what WritePropertyMultiple writes to one object: the object, and a list of values of properties.
abbrev pub write_specification_steps : WriteSpecification → List Step
write_specification_steps specification =
    next (object_under name.Object 0 specification.object) ∷ listed_in name.Values 1 property_value_steps specification.values

-- The steps of WritePropertyMultiple: the service choice, and a list of what it writes to objects.
abbrev pub write_multiple_steps : List WriteSpecification → List Step
write_multiple_steps specs = next (octet_field name.WritePropertyMultiple 16) ∷ listed name.Specifications write_specification_steps specs

-- The steps of the error of WritePropertyMultiple: the service choice, the class and the code, and the object, the property and
-- its index where the write failed. The error and the reference are groups, whose tags belong to no field.
abbrev pub write_error_steps : WritePropertyMultipleError → List Step
write_error_steps error =
    next (octet_field name.Choice 16) ∷ pass 1
    ∷ (cause_steps error.class error.code ++ pass 2 ∷ next (object_under name.Object 0 error.object) ∷ (property_steps 1 2 error.property error.index ++ pass 1 ∷ []))
