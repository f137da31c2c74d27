-- I-Am (clause 21): the device, the largest APDU that it takes, its segmentation and its vendor, each under the
-- application tag of its type.
use Rattle.std.specs.Prelude.{ℕ, List, refl}
use Rattle.bac_tag.specs.Spelling.{Joins, Joined}
use Rattle.bac_productions.specs.Contents.{ApplicationObject, ApplicationUnsigned, ApplicationEnumerated, ApplicationUnsigned16, ApplicationEnumeratedPart, of_number}
use Rattle.bac_productions.specs.Productions.{IsRecordOf}
use Rattle.bac_service.specs.declared.service.i_am.IAm.{IAm}

-- The lists that spell an I-Am: the device, the most octets of an APDU, the segmentation and the vendor.
abbrev pub SpellsIAm : IAm → List ℕ → Type 0
SpellsIAm request =
    Joins (ApplicationObject request.object)
    (Joins (ApplicationUnsigned request.apdu)
    (Joins (ApplicationEnumerated request.segmentation) (ApplicationUnsigned16 request.vendor)))

-- An I-Am is its fields, and is spelled as they are.
pub i_am_parts : IsRecordOf (Joined ApplicationObject (Joined ApplicationUnsigned (Joined ApplicationEnumeratedPart ApplicationUnsigned16))) SpellsIAm
i_am_parts = record {
  fields = λ r. (r.object, (r.apdu, (of_number r.segmentation, r.vendor)));
  of_fields = λ p. record { object = p.0; apdu = p.1.0; segmentation = p.1.1.0.0; vendor = p.1.1.1 };
  same = λ r. refl;
  split = λ r b s. s;
  joined = λ p b s. s;
}
