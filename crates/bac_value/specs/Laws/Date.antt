-- Laws on the contents of a Date.
use Rattle.std.proofs.Common.{◌≡◌, ℕ, List, length, arith, refl, ap}
use Rattle.bac_value.specs.declared.types.date_value.Date.{Date}
use Rattle.bac_value.specs.Laws.AnyOctets.{AreAnyOctets}
use Rattle.bac_value.specs.DateContents.{IsDate, date_octets}

abbrev date : List ℕ → Date
date octets = record { 0 = octets }

pub date_any_octets : AreAnyOctets 4 4 IsDate date_octets
date_any_octets = record {
  once = λ a b p q e. ap date e;
  sized = λ value h. let four : length value.0 ≡ 4 = h.1 in (omega arith, omega arith);
  any = λ octets p least most. (date octets, record { value_holds = (p, omega arith); is = refl });
}
