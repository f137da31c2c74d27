-- The fields of ReadPropertyMultiple and of its answer (clause 15.7).
use Rattle.std.specs.Prelude.{List, [], ◌∷◌}
use Rattle.std.specs.Option.{option_map_or}
use Rattle.bac_service.specs.ReadAccessSpecification.{Specification}
use Rattle.bac_service.specs.ReadAccessResult.{AccessResult}
use Rattle.bac_field_parts.specs.declared.names.Name.TheVariants as name
use Rattle.bac_field_parts.specs.Fields.{Step, next, octet_field, listed, listed_in}
use Rattle.bac_field_parts.specs.PrimitiveFields.{object_under}
use Rattle.bac_fields.specs.PropertyFields.{reference_steps, property_result_steps}

-- The steps of what ReadPropertyMultiple asks of one object: the object, and a list of properties.
abbrev pub specification_steps : Specification → List Step
specification_steps specification =
    next (object_under name.Object 0 specification.object) ∷ listed_in name.Properties 1 reference_steps specification.properties

-- The steps of ReadPropertyMultiple: the service choice, and a list of what it asks of objects.
abbrev pub read_multiple_steps : List Specification → List Step
read_multiple_steps specs = next (octet_field name.ReadPropertyMultiple 14) ∷ listed name.Specifications specification_steps specs

-- The steps of what the answer to ReadPropertyMultiple gives of one object: the object, and a list of results, if there is one.
abbrev pub access_result_steps : AccessResult → List Step
access_result_steps result =
    next (object_under name.Object 0 result.object) ∷ option_map_or (listed_in name.Results 1 property_result_steps) result.results []

-- The steps of the answer to ReadPropertyMultiple: the service choice, and a list of what it gives of objects.
abbrev pub read_multiple_ack_steps : List AccessResult → List Step
read_multiple_ack_steps results = next (octet_field name.ReadPropertyMultiple 14) ∷ listed name.Results access_result_steps results
