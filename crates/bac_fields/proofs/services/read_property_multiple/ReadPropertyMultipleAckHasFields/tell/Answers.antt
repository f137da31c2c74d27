use Rattle.std.proofs.Common.{◌∷◌, ap, ◌∙◌}
use Rattle.bac_service.specs.ReadAccessResult.{access_result_of}
use Rattle.bac_field_parts.specs.declared.names.Name.TheVariants as name
use Rattle.bac_field_parts.specs.Fields.{next, octet_field, listed}
use Rattle.bac_fields.specs.ReadPropertyMultipleFields.{access_result_steps}
use Rattle.bac_field_parts.proofs.FieldLemmas.{writes_same, listed-map}
use Rattle.bac_fields.proofs.services.read_property_multiple.ReadPropertyMultipleAckHasFields.tell.Goals as goal

pub returns : goal.returns
returns c =
    writes_same
    (ap (λ items. next (octet_field name.ReadPropertyMultiple 14) ∷ listed name.Results (λ item. access_result_steps (access_result_of item)) items) c.as_slice.ensures.value
    ∙ ap (λ list. next (octet_field name.ReadPropertyMultiple 14) ∷ list) (listed-map name.Results access_result_of access_result_steps _)) c.tell.ensures
