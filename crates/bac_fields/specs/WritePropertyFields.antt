-- The fields of WriteProperty (clause 15.9).
use Rattle.std.specs.Prelude.{List, ◌∷◌, ◌++◌}
use Rattle.bac_service.specs.declared.service.write_property.WriteProperty.{WriteProperty}
use Rattle.bac_field_parts.specs.declared.names.Name.TheVariants as name
use Rattle.bac_field_parts.specs.Fields.{Step, next, optional, octet_field}
use Rattle.bac_field_parts.specs.PrimitiveFields.{object_under, number_under}
use Rattle.bac_field_parts.specs.OpenValueFields.{open_steps}
use Rattle.bac_fields.specs.PropertyFields.{property_steps}

-- The steps of WriteProperty: the service choice, the object, the property and its index, the value, and
-- a priority, if there is one.
abbrev pub write_property_steps : WriteProperty → List Step
write_property_steps request =
    next (octet_field name.WriteProperty 15) ∷ next (object_under name.Object 0 request.object)
    ∷ (property_steps 1 2 request.property request.index ++ (open_steps 3 request.value ++ optional (number_under name.Priority 4) request.priority))
