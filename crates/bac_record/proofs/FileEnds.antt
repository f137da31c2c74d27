-- The end of a file of which more follows.
use Rattle.std.proofs.Common.{◌≡◌, ℕ, List, [], ◌∷◌, ◌++◌, refl, arith, Bool, true, false, nat_eq, if◌then◌else◌}
use Rattle.std.proofs.lemmas.Bool.Decides.{nat_tests}
use Rattle.bac_record.specs.Records.{MOST, TooMany, Truncated, end_of}
use Rattle.bac_record.specs.Runs.{HasEnd}

tests_most : (is_most : Bool) → (if is_most then TooMany else Truncated) ≡ TooMany → is_most ≡ true
tests_most true e = refl
tests_most false e = cc

most_when : (n : ℕ) → nat_eq n MOST ≡ true → n ≡ MOST
most_when n tells = grind (arith, nat_tests)

-- Octets behind the most records are too many, whatever follows.
pub most_with_more : (count : ℕ) (rest more : List ℕ) → HasEnd count rest TooMany → HasEnd count (rest ++ more) TooMany
most_with_more count [] more end = absurd (let e = end.2 in cc)
most_with_more count (octet ∷ octets) more end =
    let tells = tests_most (nat_eq count MOST) end.2 in
    let most = most_when count tells in
    (end.0, (λ less found. omega (arith, most)), too_many tells)
  where
    too_many : nat_eq count MOST ≡ true → end_of count (octet ∷ (octets ++ more)) ≡ TooMany
    too_many e = rw e refl
