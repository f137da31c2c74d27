use Rattle.std.proofs.Common.{◌∷◌, ap, ◌∙◌}
use Rattle.bac_service.specs.WriteAccessSpecification.{write_specification_of}
use Rattle.bac_field_parts.specs.declared.names.Name.TheVariants as name
use Rattle.bac_field_parts.specs.Fields.{next, octet_field, listed}
use Rattle.bac_fields.specs.WritePropertyMultipleFields.{write_specification_steps}
use Rattle.bac_field_parts.proofs.FieldLemmas.{writes_same, listed-map}
use Rattle.bac_fields.proofs.services.write_property_multiple.WritePropertyMultipleHasFields.tell.Goals as goal

pub returns : goal.returns
returns c =
    writes_same
    (ap (λ items. next (octet_field name.WritePropertyMultiple 16) ∷ listed name.Specifications (λ item. write_specification_steps (write_specification_of item)) items) c.as_slice.ensures.value
    ∙ ap (λ list. next (octet_field name.WritePropertyMultiple 16) ∷ list) (listed-map name.Specifications write_specification_of write_specification_steps _)) c.tell.ensures
