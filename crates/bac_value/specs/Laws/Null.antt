-- Laws on the contents of Null.
use Rattle.std.proofs.Common.{◌≡◌, ℕ, ◌≤◌, List, [], ◌∷◌, length, arith, refl}
use Rattle.bac_value.specs.Laws.AnyOctets.{AreAnyOctets}
use Rattle.bac_value.specs.NullContents.{IsNull, null_octets}

no_octets : (octets : List ℕ) → length octets ≤ 0 → octets ≡ []
no_octets [] most = refl
no_octets (x ∷ xs) most = absurd (omega arith)

pub null_any_octets : AreAnyOctets 0 0 IsNull null_octets
null_any_octets = record {
  once = λ a b p q e. refl;
  sized = λ value h. (omega arith, omega arith);
  any = λ octets p least most. (record {}, record { value_holds = tt; is = no_octets octets most });
}
