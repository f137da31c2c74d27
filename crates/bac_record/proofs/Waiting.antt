-- Less than a record behind some records.
use Rattle.std.proofs.Common.{◌≡◌, ◌==◌, ◌∙◌, inl, inr, ℕ, ◌<◌, List, [], ◌∷◌, length, refl, sym, ap, arith, Bool, true, false, nat_eq, if◌then◌else◌}
use Rattle.bac_record.specs.Records.{MOST, Clean, TooMany, Truncated}
use Rattle.bac_record.specs.Runs.{HasEnd, Waits}

never_clean : (is_most : Bool) → (if is_most then TooMany else Truncated) ≡ Clean → ⊥
never_clean true e = cc
never_clean false e = cc

-- Where something is held, its end is within a record.
pub truncated : (count : ℕ) (held : List ℕ) → Waits count held → 0 < length held → HasEnd count held Truncated
truncated count [] waits some = absurd (omega arith)
truncated count (octet ∷ octets) waits some = elim waits [
  | inl clean ↦ absurd (never_clean (nat_eq count MOST) clean.2)
  | inr end ↦ end
]

-- what a test for no octets tells
pub held_some : (octets : List ℕ) (is_empty : Bool) → is_empty ≡ (length octets == 0) → is_empty ≡ false → 0 < length octets
held_some [] is_empty tells some = absurd (let bad : true ≡ false = sym tells ∙ some in cc)
held_some (octet ∷ octets) is_empty tells some = omega arith

-- Before the first read nothing is held.
pub waits_for_first : Waits 0 []
waits_for_first = inl (omega arith, (λ few begins. omega (arith, ap length begins.3)), refl)
