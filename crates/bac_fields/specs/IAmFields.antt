-- The fields of I-Am (clause 16.10).
use Rattle.std.specs.Prelude.{List, [], ◌∷◌}
use Rattle.bac_service.specs.declared.service.i_am.IAm.{IAm}
use Rattle.bac_field_parts.specs.declared.names.Name.TheVariants as name
use Rattle.bac_field_parts.specs.Fields.{Step, next, octet_field}
use Rattle.bac_field_parts.specs.PrimitiveFields.{object_field, unsigned_field, enumerated_field}

-- The steps of I-Am: the object, the longest APDU, segmentation and vendor, each under its application tag.
abbrev pub i_am_steps : IAm → List Step
i_am_steps request =
    next (octet_field name.IAm 0) ∷ next (object_field name.Object request.object) ∷ next (unsigned_field name.MaxApdu request.apdu)
    ∷ next (enumerated_field name.Segmentation request.segmentation) ∷ next (unsigned_field name.Vendor request.vendor) ∷ []
