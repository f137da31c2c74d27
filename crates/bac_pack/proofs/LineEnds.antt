-- The first LF of some octets.
use Rattle.std.proofs.Common.{zero, suc, ◌≡◌, ◌≢◌, ◌==◌, ℕ, ◌+◌, ◌<◌, ◌≤◌, List, [], ◌∷◌, ◌++◌, length, take, drop, refl, sym, ap, subst, ◌∙◌, append_assoc, arith, length-append, length-take-le, take-append-drop, Option, Some, None, MatchOption, true, false}
use Rattle.std.specs.Prelude.{slice_index}
use Rattle.std.proofs.lemmas.Bool.{eqb-true, eqb-false}
use Rattle.memchr.specs.Find.{IsFirstByte, Passes, is_byte}
use Rattle.bac_pack.specs.Lines.{LF, IsUnbroken}
use Rattle.bac_pack.specs.Packing.{EndsAt}

pub is_end : (octet : ℕ) → (octet == LF) ≡ true → octet ≡ LF
is_end octet e = eqb-true octet LF e

pub is_other : (octet : ℕ) → (octet == LF) ≡ false → octet ≢ LF
is_other octet e = eqb-false octet LF e

-- octets of which none is an LF
unbroken_when : (octets : List ℕ) → ((k : ℕ) → k < length octets → slice_index octets k ≢ LF) → IsUnbroken octets
unbroken_when [] other = tt
unbroken_when (octet ∷ octets) other = (other zero (omega arith), unbroken_when octets (λ k lt. other (suc k) (omega (arith, lt))))

-- octets of which the one at this place is an LF, and none before it
ends_when : (octets : List ℕ) (end : ℕ) → end < length octets → slice_index octets end ≡ LF → ((k : ℕ) → k < end → slice_index octets k ≢ LF) → EndsAt octets end
ends_when [] end lt is other = absurd (omega (arith, lt))
ends_when (octet ∷ octets) zero lt is other = ([], octets, ap (λ o. o ∷ octets) is, refl, tt)
ends_when (octet ∷ octets) (suc end) lt is other =
    let found = ends_when octets end (omega (arith, lt)) is (λ k below. other (suc k) (omega (arith, below))) in
    (octet ∷ found.0, found.1, ap (λ (l : List ℕ). octet ∷ l) found.2, omega (arith, found.3), (other zero (omega arith), found.4))

passes : (octets : List ℕ) (k : ℕ) → slice_index octets k ≡ LF → Passes (is_byte LF) octets k
passes octets k is = ap (λ octet. octet == LF) is

-- what the place of the first LF tells
pub first_tells : (octets : List ℕ) (found : Option ℕ) → IsFirstByte (is_byte LF) octets found → MatchOption found (IsUnbroken octets) (EndsAt octets)
first_tells octets None none = unbroken_when octets (λ k lt is. none k (omega arith) lt (passes octets k is))
first_tells octets (Some end) first = ends_when octets end first.0.high (eqb-true (slice_index octets end) LF first.1) (λ k below is. first.0.before k (omega arith) below (passes octets k is))

pub IsUnbroken-append : (front octets : List ℕ) → IsUnbroken front → IsUnbroken octets → IsUnbroken (front ++ octets)
IsUnbroken-append [] octets one two = two
IsUnbroken-append (octet ∷ front) octets one two = (one.0, IsUnbroken-append front octets one.1 two)

-- Octets without LF stand in front.
pub unbroken_behind : (octets : List ℕ) (passed : ℕ) → IsUnbroken (take passed octets) → IsUnbroken (drop passed octets) → IsUnbroken octets
unbroken_behind octets passed front rest =
    subst IsUnbroken (take-append-drop passed octets) (IsUnbroken-append (take passed octets) (drop passed octets) front rest)

pub ends_behind : (octets : List ℕ) (passed end : ℕ) → passed ≤ length octets → IsUnbroken (take passed octets) → EndsAt (drop passed octets) end → EndsAt octets (passed + end)
ends_behind octets passed end within front found =
    let long : length (take passed octets) ≡ passed = length-take-le passed octets within in (
      take passed octets ++ found.0,
      found.1,
      sym (take-append-drop passed octets) ∙ ap (λ l. take passed octets ++ l) found.2 ∙ sym (append_assoc (take passed octets) found.0 (LF ∷ found.1)),
      omega (arith, long, found.3, length-append (take passed octets) found.0),
      IsUnbroken-append (take passed octets) found.0 front found.4,
    )
