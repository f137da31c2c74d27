-- Laws on the contents of a Real.
use Rattle.std.proofs.Common.{◌≡◌, ℕ, ◌<◌, ◌^◌, List, [], ◌∷◌, length, arith, refl, sym, ◌∙◌, ap}
use Rattle.std.specs.Int.{w32, from_be_bytes}
use Rattle.std.proofs.lemmas.Nat.{be_bytes_4, from_be_bytes-to_be_bytes_4}
use Rattle.bac_tag.specs.Octets.{IsOctets}
use Rattle.bac_tag.specs.Laws.Octets.{octets_below}
use Rattle.bac_value.specs.declared.types.real.RealBits.{RealBits}
use Rattle.bac_value.specs.Primitives.{IsTheList}
use Rattle.bac_value.specs.Laws.AnyOctets.{AreAnyOctets}
use Rattle.bac_value.specs.RealContents.{IsReal, real_octets}

abbrev real : ℕ → RealBits
real bits = record { 0 = bits }

real_once : (a b : RealBits) → IsReal a → IsReal b → real_octets a ≡ real_octets b → a ≡ b
unfolding real_octets
real_once a b p q e = ap real (sym (from_be_bytes-to_be_bytes_4 a.0 p) ∙ ap (from_be_bytes w32) e ∙ from_be_bytes-to_be_bytes_4 b.0 q)

real_fits : (octets : List ℕ) → IsOctets octets → length octets ≡ 4 → from_be_bytes w32 octets < 2 ^ 32
real_fits (a ∷ b ∷ c ∷ d ∷ []) p sized = omega (arith, p.0, p.1.0, p.1.1.0, p.1.1.1.0)
real_fits octets p sized = absurd (omega arith)

pub real_any_octets : AreAnyOctets 4 4 IsReal real_octets
unfolding real_octets
real_any_octets = record {
  once = real_once;
  sized = λ value h. (omega arith, omega arith);
  any = λ octets p least most.
      let all : length octets ≡ 4 = omega arith in
      let found : IsTheList IsReal real_octets (real (from_be_bytes w32 octets)) octets =
      record { value_holds = real_fits octets p all; is = sym (be_bytes_4 octets _ all (octets_below octets p) refl) } in
      (_, found);
}
