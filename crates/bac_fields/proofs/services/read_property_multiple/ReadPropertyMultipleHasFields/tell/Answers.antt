use Rattle.std.proofs.Common.{◌∷◌, ap, ◌∙◌}
use Rattle.bac_service.specs.ReadAccessSpecification.{specification_of}
use Rattle.bac_field_parts.specs.declared.names.Name.TheVariants as name
use Rattle.bac_field_parts.specs.Fields.{next, octet_field, listed}
use Rattle.bac_fields.specs.ReadPropertyMultipleFields.{specification_steps}
use Rattle.bac_field_parts.proofs.FieldLemmas.{writes_same, listed-map}
use Rattle.bac_fields.proofs.services.read_property_multiple.ReadPropertyMultipleHasFields.tell.Goals as goal

pub returns : goal.returns
returns c =
    writes_same
    (ap (λ items. next (octet_field name.ReadPropertyMultiple 14) ∷ listed name.Specifications (λ item. specification_steps (specification_of item)) items) c.as_slice.ensures.value
    ∙ ap (λ list. next (octet_field name.ReadPropertyMultiple 14) ∷ list) (listed-map name.Specifications specification_of specification_steps _)) c.tell.ensures
