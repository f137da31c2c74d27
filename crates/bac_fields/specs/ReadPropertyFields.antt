-- The fields of ReadProperty and of its answer (clause 15.5).
use Rattle.std.specs.Prelude.{List, ◌∷◌, ◌++◌}
use Rattle.bac_service.specs.declared.service.read_property.ReadProperty.{ReadProperty}
use Rattle.bac_service.specs.declared.service.read_property_ack.ReadPropertyAck.{ReadPropertyAck}
use Rattle.bac_field_parts.specs.declared.names.Name.TheVariants as name
use Rattle.bac_field_parts.specs.Fields.{Step, next, octet_field}
use Rattle.bac_field_parts.specs.PrimitiveFields.{object_under}
use Rattle.bac_field_parts.specs.OpenValueFields.{open_steps}
use Rattle.bac_fields.specs.PropertyFields.{property_steps}

-- The steps of ReadProperty: the service choice, the object, the property and its index.
abbrev pub read_property_steps : ReadProperty → List Step
read_property_steps request =
    next (octet_field name.ReadProperty 12) ∷ next (object_under name.Object 0 request.object) ∷ property_steps 1 2 request.property request.index

-- The steps of the answer to ReadProperty: the service choice, the object, the property and its index, the value.
abbrev pub read_property_ack_steps : ReadPropertyAck → List Step
read_property_ack_steps ack =
    next (octet_field name.ReadProperty 12) ∷ next (object_under name.Object 0 ack.object) ∷ (property_steps 1 2 ack.property ack.index ++ open_steps 3 ack.value)
