-- Laws on signed integers as contents.
use Rattle.std.proofs.Common.{◌≡◌, ℕ, zero, suc, ◌<◌, ◌≤◌, ◌^◌, ◌+◌, ◌*◌, ◌-◌, List, [], ◌∷◌, ◌++◌, length, drop, replicate, arith, sym, ◌∙◌, ap, refl, subst, inl, inr, get_or, add-zero, add-one, length-append, length-drop, ℤ, pos, negsuc}
use Rattle.std.specs.Prelude.{FitsSigned}
use Rattle.std.specs.Int.{w64, from_be_bytes, to_be_bytes, cast_signed, cast_unsigned}
use Rattle.std.specs.Int.Digits.{number_from_digits_after}
use Rattle.std.proofs.Math.Nat.{pow-le-pow_right, pow-suc, mul-le-mul_right}
use Rattle.std.proofs.lemmas.Bool.{cases_lt}
use Rattle.std.proofs.lemmas.Bool.Decides.{nat_tests}
use Rattle.std.proofs.lemmas.Int.{to_z_pos, to_z-of_z}
use Rattle.std.proofs.lemmas.Int.Digits.{number_lt, number_after_lt}
use Rattle.std.proofs.lemmas.List.{get_or-drop, length-replicate}
use Rattle.bac_tag.specs.Octets.{IsOctets, NoGreater}
use Rattle.bac_tag.specs.Laws.Octets.{NoGreater-by_length}
use Rattle.bac_tag.specs.Number.{number}
use Rattle.bac_tag.specs.Laws.Number.{number_same, number_after_is}
use Rattle.bac_numbers.specs.Numbers.{least_number}
use Rattle.bac_numbers.specs.Laws.Numbers.{Spells, least_spells, length-least_number-le, least_number_is, number-to_be_bytes}
use Rattle.bac_numbers.specs.SignedContents.{complement, signed_number, SignedContents, with_sign_bit, least_signed, RepeatsSign}

-- ---- the complement

pub length-complement : (octets : List ℕ) → length (complement octets) ≡ length octets
length-complement [] = refl
length-complement (x ∷ xs) = ap suc (length-complement xs)

pub octets_complement : (octets : List ℕ) → IsOctets (complement octets)
octets_complement [] = tt
octets_complement (x ∷ xs) = (omega arith, octets_complement xs)

pub complement_twice : (octets : List ℕ) → IsOctets octets → complement (complement octets) ≡ octets
complement_twice [] h = refl
complement_twice (x ∷ xs) h =
    let first : 255 - (255 - x) ≡ x = omega (arith, h.0) in
    let rest : complement (complement xs) ≡ xs = complement_twice xs h.1 in
    cc

-- of as many octets the number and that of the complement make a constant
after_complement : (m n : ℕ) (octets : List ℕ) → IsOctets octets → number_from_digits_after 256 m octets + number_from_digits_after 256 n (complement octets) + 1 ≡ (m + n + 1) * 256 ^ length octets
after_complement m n [] h = omega arith
after_complement m n (x ∷ xs) h =
    let rest : number_from_digits_after 256 (m * 256 + x) xs + number_from_digits_after 256 (n * 256 + (255 - x)) (complement xs) + 1 ≡ (m * 256 + x + (n * 256 + (255 - x)) + 1) * 256 ^ length xs = after_complement (m * 256 + x) (n * 256 + (255 - x)) xs h.1 in
    let front : m * 256 + x + (n * 256 + (255 - x)) + 1 ≡ (m + n + 1) * 256 = omega (arith, h.0) in
    let whole : (m + n + 1) * 256 ^ length (x ∷ xs) ≡ (m + n + 1) * (256 ^ length xs * 256) = ap (λ p. (m + n + 1) * p) (pow-suc 256 (length xs)) in
    let here : (m * 256 + x + (n * 256 + (255 - x)) + 1) * 256 ^ length xs ≡ (m + n + 1) * 256 * 256 ^ length xs = ap (λ p. p * 256 ^ length xs) front in
    omega arith

pub number_complement : (octets : List ℕ) → IsOctets octets → number octets + number (complement octets) + 1 ≡ 256 ^ length octets
number_complement octets h = omega (arith, after_complement 0 0 octets h)

get_or-complement : (octets : List ℕ) → 1 ≤ length octets → get_or (complement octets) 0 0 ≡ 255 - get_or octets 0 0
get_or-complement [] some = absurd (omega arith)
get_or-complement (x ∷ xs) some = refl

-- ---- numbers whose highest bit is not set

-- octets that spell n with the highest bit not set
pub record SpellsHalf (n : ℕ) (octets : List ℕ) : Type 0 where
  pub spells : Spells n octets
  pub sign : get_or octets 0 0 < 128

with_sign_bit_small : (octets : List ℕ) → get_or octets 0 0 < 128 → with_sign_bit octets ≡ octets
unfolding with_sign_bit
with_sign_bit_small octets h = grind (arith, nat_tests)

with_sign_bit_large : (octets : List ℕ) → 128 ≤ get_or octets 0 0 → with_sign_bit octets ≡ 0 ∷ octets
unfolding with_sign_bit
with_sign_bit_large octets h = grind (arith, nat_tests)

pub half_fits : (n : ℕ) (octets : List ℕ) → SpellsHalf n octets → n < 2 ^ 63
half_fits n [] h = absurd (omega (arith, h.spells.sized.0))
half_fits n (x ∷ xs) h =
    let below : number (x ∷ xs) < (0 * 256 + x + 1) * 256 ^ length xs = number_after_lt 256 (0 * 256 + x) xs h.spells.are_octets.1 in
    let sign : x < 128 = h.sign in
    let front : (0 * 256 + x + 1) * 256 ^ length xs ≤ 128 * 256 ^ length xs = mul-le-mul_right (256 ^ length xs) (omega arith) in
    let seven : length xs ≤ 7 = omega (arith, h.spells.sized.1) in
    let room : 256 ^ length xs ≤ 256 ^ 7 = pow-le-pow_right (omega arith) seven in
    omega (arith, h.spells.is)

-- seven octets are the most where the highest bit is set
large_short : (n : ℕ) (octets : List ℕ) → Spells n octets → n < 2 ^ 63 → 128 ≤ get_or octets 0 0 → length octets ≤ 7
large_short n [] h small sign = omega arith
large_short n (x ∷ xs) h small sign =
    let large : (0 * 256 + x) * 256 ^ length xs ≤ number (x ∷ xs) = (omega (arith, number_after_is (0 * 256 + x) xs)) in
    let front : 128 * 256 ^ length xs ≤ (0 * 256 + x) * 256 ^ length xs = mul-le-mul_right (256 ^ length xs) (omega arith) in
    elim (cases_lt (length xs) 7) [
      | inl fewer ↦ omega arith
      | inr more ↦
          let room : 256 ^ 7 ≤ 256 ^ length xs = pow-le-pow_right (omega arith) more in
          absurd (omega (arith, h.is))
    ]

zero_in_front : (n : ℕ) (octets : List ℕ) → Spells n octets → length octets ≤ 7 → SpellsHalf n (0 ∷ octets)
zero_in_front n octets h short = record {
  spells = record { are_octets = (omega arith, h.are_octets); sized = (omega arith, omega arith); is = h.is };
  sign = omega arith;
}

half_written : (n : ℕ) → n < 2 ^ 63 → SpellsHalf n (with_sign_bit (least_number n))
half_written n small =
    let least : Spells n (least_number n) = least_spells n (omega arith) in
    elim (cases_lt (get_or (least_number n) 0 0) 128) [
      | inl low ↦ rw (with_sign_bit_small (least_number n) low) (record { spells = least; sign = low })
      | inr high ↦ rw (with_sign_bit_large (least_number n) high) (zero_in_front n (least_number n) least (large_short n (least_number n) least small high))
    ]

half_least : (n : ℕ) (octets : List ℕ) → SpellsHalf n octets → length (with_sign_bit (least_number n)) ≤ length octets
half_least n octets h =
    let least : Spells n (least_number n) = least_spells n (omega (arith, half_fits n octets h)) in
    let below : n < 256 ^ length octets = rw (← h.spells.is) (number_lt 256 octets h.spells.are_octets) in
    let short : length (least_number n) ≤ length octets = length-least_number-le (length octets) n h.spells.sized.0 below in
    elim (cases_lt (get_or (least_number n) 0 0) 128) [
      | inl low ↦ rw (with_sign_bit_small (least_number n) low) short
      | inr high ↦ rw (with_sign_bit_large (least_number n) high) (elim (cases_lt (length (least_number n)) (length octets)) [
        | inl shorter ↦ omega arith
        | inr longer ↦
            let same : least_number n ≡ octets = number_same _ _ least.are_octets h.spells.are_octets (omega arith) (least.is ∙ sym h.spells.is) in
            absurd (omega (arith, h.sign, ap (λ l. get_or l 0 0) same))
      ])
    ]

-- octets of which the first is no mere sign are the fewest
half_is : (n : ℕ) (octets : List ℕ) → SpellsHalf n octets → (1 < length octets → get_or octets 0 0 ≡ 0 → 128 ≤ get_or octets 1 0) → octets ≡ with_sign_bit (least_number n)
half_is n [] h first = absurd (omega (arith, h.spells.sized.0))
half_is n (x ∷ []) h first =
    let least : x ∷ [] ≡ least_number n = least_number_is n (x ∷ []) h.spells (λ two. omega arith) in
    least ∙ sym (with_sign_bit_small (least_number n) (omega (arith, h.sign, ap (λ l. get_or l 0 0) least)))
half_is n (suc x ∷ y ∷ ys) h first =
    let least : suc x ∷ y ∷ ys ≡ least_number n = least_number_is n (suc x ∷ y ∷ ys) h.spells (λ two. omega arith) in
    least ∙ sym (with_sign_bit_small (least_number n) (omega (arith, h.sign, ap (λ l. get_or l 0 0) least)))
half_is n (zero ∷ y ∷ ys) h first =
    let high : 128 ≤ y = first (omega arith) refl in
    let rest : Spells n (y ∷ ys) = record { are_octets = h.spells.are_octets.1; sized = (omega arith, omega (arith, h.spells.sized.1)); is = h.spells.is } in
    let least : y ∷ ys ≡ least_number n = least_number_is n (y ∷ ys) rest (λ two. omega arith) in
    ap (λ l. 0 ∷ l) least ∙ sym (with_sign_bit_large (least_number n) (omega (arith, ap (λ l. get_or l 0 0) least)))

-- ---- signed numbers

signed_of_low : (octets : List ℕ) → get_or octets 0 0 < 128 → signed_number octets ≡ pos (number octets)
unfolding signed_number
signed_of_low octets h = grind (arith, nat_tests)

signed_of_high : (octets : List ℕ) → 128 ≤ get_or octets 0 0 → signed_number octets ≡ negsuc (number (complement octets))
unfolding signed_number
signed_of_high octets h = grind (arith, nat_tests)

pub half_from_pos : (n : ℕ) (octets : List ℕ) → SignedContents (pos n) octets → SpellsHalf n octets
half_from_pos n octets h = elim (cases_lt (get_or octets 0 0) 128) [
  | inl low ↦ let e : pos (number octets) ≡ pos n = sym (signed_of_low octets low) ∙ h.is in
      record { spells = record { are_octets = h.are_octets; sized = (h.sized.0, h.sized.1); is = cc }; sign = low }
  | inr high ↦ let e : negsuc (number (complement octets)) ≡ pos n = sym (signed_of_high octets high) ∙ h.is in absurd (cc)
]

pub half_from_negsuc : (n : ℕ) (octets : List ℕ) → SignedContents (negsuc n) octets → SpellsHalf n (complement octets)
half_from_negsuc n octets h = elim (cases_lt (get_or octets 0 0) 128) [
  | inl low ↦ let e : pos (number octets) ≡ negsuc n = sym (signed_of_low octets low) ∙ h.is in absurd (cc)
  | inr high ↦ let e : negsuc (number (complement octets)) ≡ negsuc n = sym (signed_of_high octets high) ∙ h.is in
      record {
        spells = record { are_octets = octets_complement octets; sized = (omega (arith, h.sized.0, length-complement octets), omega (arith, h.sized.1, length-complement octets)); is = cc };
        sign = omega (arith, get_or-complement octets h.sized.0);
      }
]

pub pos_from_half : (n : ℕ) (octets : List ℕ) → SpellsHalf n octets → SignedContents (pos n) octets
pos_from_half n octets h = record { are_octets = h.spells.are_octets; sized = (h.spells.sized.0, h.spells.sized.1); is = signed_of_low octets h.sign ∙ ap pos h.spells.is }

pub negsuc_from_half : (n : ℕ) (octets : List ℕ) → SpellsHalf n octets → SignedContents (negsuc n) (complement octets)
negsuc_from_half n octets h =
    let first : get_or (complement octets) 0 0 ≡ 255 - get_or octets 0 0 = get_or-complement octets h.spells.sized.0 in
    record {
      are_octets = octets_complement octets;
      sized = (omega (arith, h.spells.sized.0, length-complement octets), omega (arith, h.spells.sized.1, length-complement octets));
      is = signed_of_high (complement octets) (omega (arith, h.sign)) ∙ ap (λ l. negsuc (number l)) (complement_twice octets h.spells.are_octets) ∙ ap negsuc h.spells.is;
    }

-- ---- the laws

pub signed_only_values : (z : ℤ) (octets : List ℕ) → SignedContents z octets → FitsSigned w64 z
signed_only_values (pos n) octets h = record { sfits = half_fits n octets (half_from_pos n octets h) }
signed_only_values (negsuc n) octets h = record { sfits = half_fits n (complement octets) (half_from_negsuc n octets h) }

pub signed_written : (z : ℤ) → FitsSigned w64 z → SignedContents z (least_signed z)
unfolding least_signed
signed_written (pos n) fits = pos_from_half n _ (half_written n fits.sfits)
signed_written (negsuc n) fits = negsuc_from_half n _ (half_written n fits.sfits)

pub signed_least : (z : ℤ) (octets : List ℕ) → SignedContents z octets → NoGreater (least_signed z) octets
unfolding least_signed
signed_least (pos n) octets h =
    let half = half_from_pos n octets h in
    let written : SpellsHalf n (with_sign_bit (least_number n)) = half_written n (half_fits n octets half) in
    NoGreater-by_length _ _ (half_least n octets half) (λ l. number_same _ _ written.spells.are_octets h.are_octets l (written.spells.is ∙ sym half.spells.is))
signed_least (negsuc n) octets h =
    let half = half_from_negsuc n octets h in
    let written : SpellsHalf n (with_sign_bit (least_number n)) = half_written n (half_fits n (complement octets) half) in
    let short : length (with_sign_bit (least_number n)) ≤ length (complement octets) = half_least n (complement octets) half in
    NoGreater-by_length _ _ (omega (arith, length-complement octets, length-complement (with_sign_bit (least_number n))))
    (λ l. ap complement (number_same _ _ written.spells.are_octets half.spells.are_octets (omega (arith, length-complement octets, length-complement (with_sign_bit (least_number n)))) (written.spells.is ∙ sym half.spells.is))
    ∙ complement_twice octets h.are_octets)

pub signed_lengths : (z : ℤ) (octets : List ℕ) → SignedContents z octets → (1 ≤ length octets) × (length octets ≤ 8)
signed_lengths z octets h = (h.sized.0, h.sized.1)

turned : (octets : List ℕ) → IsOctets octets → (1 < length octets → get_or octets 0 0 ≡ 255 → get_or octets 1 0 < 128)
    → 1 < length (complement octets) → get_or (complement octets) 0 0 ≡ 0 → 128 ≤ get_or (complement octets) 1 0
turned [] h high two zero' = absurd (omega arith)
turned (x ∷ []) h high two zero' = absurd (omega arith)
turned (x ∷ y ∷ ys) h high two zero' = omega (arith, h.0, high (omega arith) (omega (arith, h.0)))

-- octets of which the first is no mere sign are the fewest
pub signed_is : (z : ℤ) (octets : List ℕ) → SignedContents z octets
    → (1 < length octets → get_or octets 0 0 ≡ 0 → 128 ≤ get_or octets 1 0)
    → (1 < length octets → get_or octets 0 0 ≡ 255 → get_or octets 1 0 < 128)
    → octets ≡ least_signed z
unfolding least_signed
signed_is (pos n) octets h low high = half_is n octets (half_from_pos n octets h) low
signed_is (negsuc n) octets h low high =
    sym (complement_twice octets h.are_octets) ∙ ap complement (half_is n (complement octets) (half_from_negsuc n octets h) (turned octets h.are_octets high))

-- ---- eight octets

zeros_number : (k : ℕ) (octets : List ℕ) → number (replicate k 0 ++ octets) ≡ number octets
zeros_number zero octets = refl
zeros_number (suc k) octets = zeros_number k octets

octets_zeros : (k : ℕ) (octets : List ℕ) → IsOctets octets → IsOctets (replicate k 0 ++ octets)
octets_zeros zero octets h = h
octets_zeros (suc k) octets h = (omega arith, octets_zeros k octets h)

complement_ones : (k : ℕ) (octets : List ℕ) → complement (replicate k 255 ++ octets) ≡ replicate k 0 ++ complement octets
complement_ones zero octets = refl
complement_ones (suc k) octets = ap (λ l. 0 ∷ l) (complement_ones k octets)

octets_ones : (k : ℕ) (octets : List ℕ) → IsOctets octets → IsOctets (replicate k 255 ++ octets)
octets_ones zero octets h = h
octets_ones (suc k) octets h = (omega arith, octets_ones k octets h)

-- the number of eight octets
pub number_of_eight : (octets : List ℕ) → length octets ≡ 8 → from_be_bytes w64 octets ≡ number octets
number_of_eight (a ∷ b ∷ c ∷ d ∷ e ∷ f ∷ g ∷ h ∷ []) l = omega arith
number_of_eight octets l = absurd (omega arith)

-- what eight octets with the sign's in front spell
pub widened_low : (octets : List ℕ) → IsOctets octets → 1 ≤ length octets → length octets ≤ 8 → get_or octets 0 0 < 128
    → cast_signed w64 (from_be_bytes w64 (replicate (8 - length octets) 0 ++ octets)) ≡ signed_number octets
widened_low octets p some within sign =
    let half : SpellsHalf (number octets) octets = record { spells = record { are_octets = p; sized = (some, within); is = refl }; sign = sign } in
    let long : length (replicate (8 - length octets) 0 ++ octets) ≡ 8 = omega (arith, length-append (replicate (8 - length octets) 0) octets, length-replicate {A = ℕ} (8 - length octets) 0) in
    let e : from_be_bytes w64 (replicate (8 - length octets) 0 ++ octets) ≡ number octets = number_of_eight _ long ∙ zeros_number (8 - length octets) octets in
    ap (cast_signed w64) e ∙ to_z_pos w64 (number octets) (half_fits (number octets) octets half) ∙ sym (signed_of_low octets sign)

pub widened_high : (octets : List ℕ) → IsOctets octets → 1 ≤ length octets → length octets ≤ 8 → 128 ≤ get_or octets 0 0
    → cast_signed w64 (from_be_bytes w64 (replicate (8 - length octets) 255 ++ octets)) ≡ signed_number octets
widened_high octets p some within sign =
    let half : SpellsHalf (number (complement octets)) (complement octets) = half_from_negsuc (number (complement octets)) octets (record { are_octets = p; sized = (some, within); is = signed_of_high octets sign }) in
    let small : number (complement octets) < 2 ^ 63 = half_fits _ (complement octets) half in
    let long : length (replicate (8 - length octets) 255 ++ octets) ≡ 8 = omega (arith, length-append (replicate (8 - length octets) 255) octets, length-replicate {A = ℕ} (8 - length octets) 255) in
    let both : number (replicate (8 - length octets) 255 ++ octets) + number (complement (replicate (8 - length octets) 255 ++ octets)) + 1 ≡ 256 ^ length (replicate (8 - length octets) 255 ++ octets) =
    number_complement _ (octets_ones (8 - length octets) octets p) in
    let eight : 256 ^ length (replicate (8 - length octets) 255 ++ octets) ≡ 256 ^ 8 = ap (λ k. 256 ^ k) long in
    let turned' : number (complement (replicate (8 - length octets) 255 ++ octets)) ≡ number (complement octets) =
    ap number (complement_ones (8 - length octets) octets) ∙ zeros_number (8 - length octets) (complement octets) in
    let e : from_be_bytes w64 (replicate (8 - length octets) 255 ++ octets) ≡ 2 ^ 64 - suc (number (complement octets)) = number_of_eight _ long ∙ omega arith in
    ap (cast_signed w64) e ∙ to_z-of_z w64 (negsuc (number (complement octets))) (record { sfits = small }) ∙ sym (signed_of_high octets sign)

octets_of_eight : (n : ℕ) → IsOctets (to_be_bytes w64 n)
octets_of_eight n = (omega arith, (omega arith, (omega arith, (omega arith, (omega arith, (omega arith, (omega arith, (omega arith, tt))))))))

half_of_eight : (n : ℕ) → n < 2 ^ 63 → SpellsHalf n (to_be_bytes w64 n)
half_of_eight n small = record {
  spells = record { are_octets = octets_of_eight n; sized = (omega arith, omega arith); is = number-to_be_bytes n (omega arith) };
  sign = omega arith;
}

-- the octets of a signed number of 64 bits
pub signed_number-to_be_bytes : (z : ℤ) → FitsSigned w64 z → SignedContents z (to_be_bytes w64 (cast_unsigned w64 z))
signed_number-to_be_bytes (pos n) fits = pos_from_half n _ (half_of_eight n fits.sfits)
signed_number-to_be_bytes (negsuc n) fits =
    let small : n < 2 ^ 63 = fits.sfits in
    let half : SpellsHalf n (to_be_bytes w64 n) = half_of_eight n small in
    let there : number (to_be_bytes w64 (2 ^ 64 - suc n)) ≡ 2 ^ 64 - suc n = number-to_be_bytes (2 ^ 64 - suc n) (omega arith) in
    let here : number (to_be_bytes w64 n) + number (complement (to_be_bytes w64 n)) + 1 ≡ 2 ^ 64 = number_complement (to_be_bytes w64 n) (octets_of_eight n) in
    let same : complement (to_be_bytes w64 n) ≡ to_be_bytes w64 (2 ^ 64 - suc n) =
    number_same _ _ (octets_complement (to_be_bytes w64 n)) (octets_of_eight (2 ^ 64 - suc n)) refl (omega (arith, half.spells.is)) in
    subst (SignedContents (negsuc n)) same (negsuc_from_half n _ half)

-- without an octet that only repeats the sign the number is the same
without_sign : (z : ℤ) (x y : ℕ) (ys : List ℕ) → RepeatsSign x y → SignedContents z (x ∷ y ∷ ys) → SignedContents z (y ∷ ys)
without_sign z x y ys (inl low) h = record {
  are_octets = h.are_octets.1;
  sized = (omega arith, omega (arith, h.sized.1));
  is = signed_of_low (y ∷ ys) low.1 ∙ ap (λ n. pos (number_from_digits_after 256 n (y ∷ ys))) (let e : 0 ≡ 0 * 256 + x = omega (arith, low.0) in e)
      ∙ sym (signed_of_low (x ∷ y ∷ ys) (omega (arith, low.0))) ∙ h.is;
}
without_sign z x y ys (inr high) h = record {
  are_octets = h.are_octets.1;
  sized = (omega arith, omega (arith, h.sized.1));
  is = signed_of_high (y ∷ ys) high.1 ∙ ap (λ n. negsuc (number_from_digits_after 256 n (complement (y ∷ ys)))) (let e : 0 ≡ 0 * 256 + (255 - x) = omega (arith, high.0) in e)
      ∙ sym (signed_of_high (x ∷ y ∷ ys) (omega (arith, high.0))) ∙ h.is;
}

without_signs : (z : ℤ) (start : ℕ) (octets : List ℕ) → SignedContents z octets → start < length octets
    → ((k : ℕ) → k < start → RepeatsSign (get_or octets k 0) (get_or octets (suc k) 0)) → SignedContents z (drop start octets)
without_signs z zero octets h within signs = h
without_signs z (suc start) [] h within signs = absurd (omega arith)
without_signs z (suc start) (x ∷ []) h within signs = absurd (omega arith)
without_signs z (suc start) (x ∷ y ∷ ys) h within signs =
    without_signs z start (y ∷ ys) (without_sign z x y ys (signs 0 (omega arith)) h) (omega arith) (λ k l. signs (suc k) (omega arith))

-- octets without those in front that only repeat the sign
pub significant_signed_is : (octets : List ℕ) (start : ℕ) → IsOctets octets → length octets ≤ 8 → start < length octets
    → ((k : ℕ) → k < start → RepeatsSign (get_or octets k 0) (get_or octets (k + 1) 0))
    → (start + 1 < length octets → ¬ RepeatsSign (get_or octets start 0) (get_or octets (start + 1) 0))
    → drop start octets ≡ least_signed (signed_number octets)
significant_signed_is octets start p l within signs other =
    let whole : SignedContents (signed_number octets) octets = record { are_octets = p; sized = (omega arith, l); is = refl } in
    let rest : length (drop start octets) ≡ length octets - start = length-drop start octets in
    let first : get_or (drop start octets) 0 0 ≡ get_or octets start 0 = get_or-drop start octets 0 0 ∙ ap (λ i. get_or octets i 0) (add-zero start) in
    let second : get_or (drop start octets) 1 0 ≡ get_or octets (start + 1) 0 = get_or-drop start octets 1 0 in
    signed_is _ _ (without_signs _ start octets whole within (λ k l. subst (λ (j : ℕ). RepeatsSign (get_or octets k 0) (get_or octets j 0)) (add-one k) (signs k l)))
    (λ two z. elim (cases_lt (get_or (drop start octets) 1 0) 128) [ inl low ↦ absurd (other (omega arith) (inl (sym first ∙ z, rw (← second) low))) | inr high ↦ high ])
    (λ two z. elim (cases_lt (get_or (drop start octets) 1 0) 128) [ inl low ↦ low | inr high ↦ absurd (other (omega arith) (inr (sym first ∙ z, rw (← second) high))) ])
