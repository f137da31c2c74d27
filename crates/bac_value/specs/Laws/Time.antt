-- Laws on the contents of a Time.
use Rattle.std.proofs.Common.{◌≡◌, ℕ, List, length, arith, refl, ap}
use Rattle.bac_value.specs.declared.types.time_value.Time.{Time}
use Rattle.bac_value.specs.Laws.AnyOctets.{AreAnyOctets}
use Rattle.bac_value.specs.TimeContents.{IsTime, time_octets}

abbrev time : List ℕ → Time
time octets = record { 0 = octets }

pub time_any_octets : AreAnyOctets 4 4 IsTime time_octets
time_any_octets = record {
  once = λ a b p q e. ap time e;
  sized = λ value h. let four : length value.0 ≡ 4 = h.1 in (omega arith, omega arith);
  any = λ octets p least most. (time octets, record { value_holds = (p, omega arith); is = refl });
}
