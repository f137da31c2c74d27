-- Laws on octet strings as contents.
use Rattle.std.proofs.Common.{◌≤◌, length, arith, refl}
use Rattle.bac_value.specs.Laws.AnyOctets.{AreAnyOctets}
use Rattle.bac_value.specs.OctetStringContents.{IsOctetString, octets_themselves}

pub octet_string_any_octets : AreAnyOctets 0 1048576 IsOctetString octets_themselves
octet_string_any_octets = record {
  once = λ a b p q e. e;
  sized = λ value h. let most : length value ≤ 1048576 = h.1 in (omega arith, most);
  any = λ octets p least most. (octets, record { value_holds = (p, most); is = refl });
}
