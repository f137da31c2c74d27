-- Laws on the contents of a Double.
use Rattle.std.proofs.Common.{◌≡◌, ℕ, ◌<◌, ◌^◌, List, [], ◌∷◌, length, arith, refl, sym, ◌∙◌, ap}
use Rattle.std.specs.Int.{w64, from_be_bytes}
use Rattle.std.proofs.lemmas.Nat.{be_bytes_8, from_be_bytes-to_be_bytes_8}
use Rattle.bac_tag.specs.Octets.{IsOctets}
use Rattle.bac_tag.specs.Laws.Octets.{octets_below}
use Rattle.bac_value.specs.declared.types.double.DoubleBits.{DoubleBits}
use Rattle.bac_value.specs.Primitives.{IsTheList}
use Rattle.bac_value.specs.Laws.AnyOctets.{AreAnyOctets}
use Rattle.bac_value.specs.DoubleContents.{IsDouble, double_octets}

abbrev pub double : ℕ → DoubleBits
double bits = record { 0 = bits }

double_once : (a b : DoubleBits) → IsDouble a → IsDouble b → double_octets a ≡ double_octets b → a ≡ b
unfolding double_octets
double_once a b p q e = ap double (sym (from_be_bytes-to_be_bytes_8 a.0 p) ∙ ap (from_be_bytes w64) e ∙ from_be_bytes-to_be_bytes_8 b.0 q)

double_fits : (octets : List ℕ) → IsOctets octets → length octets ≡ 8 → from_be_bytes w64 octets < 2 ^ 64
double_fits (a ∷ b ∷ c ∷ d ∷ e ∷ f ∷ g ∷ h ∷ []) p sized = omega (arith, p.0, p.1.0, p.1.1.0, p.1.1.1.0, p.1.1.1.1.0, p.1.1.1.1.1.0, p.1.1.1.1.1.1.0, p.1.1.1.1.1.1.1.0)
double_fits octets p sized = absurd (omega arith)

pub double_any_octets : AreAnyOctets 8 8 IsDouble double_octets
unfolding double_octets
double_any_octets = record {
  once = double_once;
  sized = λ value h. (omega arith, omega arith);
  any = λ octets p least most.
      let all : length octets ≡ 8 = omega arith in
      let found : IsTheList IsDouble double_octets (double (from_be_bytes w64 octets)) octets =
      record { value_holds = double_fits octets p all; is = sym (be_bytes_8 octets _ all (octets_below octets p) refl) } in
      (_, found);
}
