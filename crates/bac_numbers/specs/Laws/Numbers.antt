-- Laws on numbers as contents.
use Rattle.std.proofs.Common.{◌≡◌, ℕ, zero, suc, true, false, eqb, ◌<◌, ◌≤◌, ◌^◌, ◌+◌, ◌*◌, ◌-◌, ◌/◌, ◌%◌, ◌⊎◌, List, [], ◌∷◌, ◌++◌, length, take, drop, arith, lit≤, sym, ◌∙◌, ap, refl, inl, inr, get_or, add-zero, append-nil, take-append-drop, length-append, length-drop}
use Rattle.std.proofs.lemmas.Bool.{cases_lt, eqb-true, eqb-false}
use Rattle.std.specs.Int.{w16, w32, w64, to_be_bytes}
use Rattle.std.specs.Int.Digits.{number_from_digits_after}
use Rattle.std.proofs.lemmas.Int.Digits.{number_lt, number_digits_of, all_below_base_digits_of, first_digits_of, length-digits_of-le, length-digits_of_step}
use Rattle.std.proofs.lemmas.Nat.{pow_pos, from_be_bytes-to_be_bytes_2, from_be_bytes-to_be_bytes_4, from_be_bytes-to_be_bytes_8}
use Rattle.std.proofs.lemmas.List.{get_or-drop}
use Rattle.std.proofs.Math.Nat.{pow-le-pow_right, mul-le-mul_right}
use Rattle.bac_tag.specs.Octets.{IsOctets, NoGreater}
use Rattle.bac_tag.specs.Laws.Octets.{octets_drop, NoGreater-by_length}
use Rattle.bac_tag.specs.Number.{number, BeginsNumber, MissesAt}
use Rattle.bac_tag.specs.Laws.Number.{number_same, number_fits, number_after_is, number-append}
use Rattle.bac_numbers.specs.Numbers.{HasNumberLength, NumberContents, least_number}

-- ---- the fewest octets

-- 1 to 8 octets that spell n
pub record Spells (n : ℕ) (octets : List ℕ) : Type 0 where
  pub are_octets : IsOctets octets
  pub sized : HasNumberLength (length octets)
  pub is : number octets ≡ n

spells : (low high n : ℕ) (octets : List ℕ) → NumberContents low high n octets → Spells n octets
spells low high n octets h = record { are_octets = h.are_octets; sized = h.sized; is = h.is }

pub least_spells : (n : ℕ) → n < 2 ^ 64 → Spells n (least_number n)
unfolding least_number
least_spells zero h = record { are_octets = (omega arith, tt); sized = (omega arith, omega arith); is = refl }
least_spells (suc n) h = record {
  are_octets = all_below_base_digits_of 256 (suc n) (omega arith);
  sized = (omega (arith, length-digits_of_step 256 (suc n) (omega arith) (omega arith)), length-digits_of-le 256 8 (suc n) (omega arith) (omega arith));
  is = number_digits_of 256 (suc n) (omega arith);
}

-- their first octet is 0 for the number 0 alone
pub first_of_least : (n : ℕ) → 0 < n → 0 < get_or (least_number n) 0 0
unfolding least_number
first_of_least zero h = absurd (omega arith)
first_of_least (suc n) h = first_digits_of 256 (suc n) (omega arith) (omega arith)

spelled_below : (n : ℕ) (octets : List ℕ) → Spells n octets → n < 2 ^ 64
spelled_below n octets h = rw (← h.is) (number_fits octets h.are_octets h.sized.1)

pub length-least_number-le : (k n : ℕ) → 1 ≤ k → n < 256 ^ k → length (least_number n) ≤ k
unfolding least_number
length-least_number-le k zero some h = omega arith
length-least_number-le k (suc n) some h = length-digits_of-le 256 k (suc n) (omega arith) h

length-least_number : (n : ℕ) (octets : List ℕ) → Spells n octets → length (least_number n) ≤ length octets
length-least_number n octets h =
    let below : n < 256 ^ length octets = rw (← h.is) (number_lt 256 octets h.are_octets) in
    length-least_number-le (length octets) n h.sized.0 below

-- a first octet that is not 0 needs its place
length-least_number-ge : (n : ℕ) (octets : List ℕ) → Spells n octets → Spells n (least_number n) → 0 < get_or octets 0 0 → length octets ≤ length (least_number n)
length-least_number-ge n [] h w first = omega arith
length-least_number-ge n (x ∷ xs) h w first =
    let large : number (x ∷ xs) ≡ (0 * 256 + x) * 256 ^ length xs + number xs = number_after_is (0 * 256 + x) xs in
    let small : number (least_number n) < 256 ^ length (least_number n) = number_lt 256 _ w.are_octets in
    let once : 1 * 256 ^ length xs ≤ (0 * 256 + x) * 256 ^ length xs = mul-le-mul_right (256 ^ length xs) (omega arith) in
    elim (cases_lt (length (least_number n)) (length (x ∷ xs))) [
      | inl shorter ↦
          let worth : 256 ^ length (least_number n) ≤ 256 ^ length xs = pow-le-pow_right (omega arith) (omega arith) in
          absurd (omega (arith, h.is, w.is))
      | inr longer ↦ longer
    ]

-- octets of which the first is not 0, if there are two, are the fewest that spell their number
pub least_number_is : (n : ℕ) (octets : List ℕ) → Spells n octets → (1 < length octets → 0 < get_or octets 0 0) → octets ≡ least_number n
least_number_is n octets h first =
    let w : Spells n (least_number n) = least_spells n (spelled_below n octets h) in
    let short : length (least_number n) ≤ length octets = length-least_number n octets h in
    let long : length octets ≤ length (least_number n) = elim (cases_lt 1 (length octets)) [
      | inl two ↦ length-least_number-ge n octets h w (first two)
      | inr one ↦ let some : 1 ≤ length (least_number n) = w.sized.0 in omega arith
    ] in
    number_same _ _ h.are_octets w.are_octets (omega arith) (h.is ∙ sym w.is)

-- zeros in front are worth nothing
pub number-drop : (start : ℕ) (octets : List ℕ) → ((k : ℕ) → k < start → get_or octets k 0 ≡ 0) → number (drop start octets) ≡ number octets
number-drop zero octets zeros = refl
number-drop (suc start) [] zeros = refl
number-drop (suc start) (x ∷ xs) zeros =
    let first : 0 ≡ 0 * 256 + x = omega (arith, zeros 0 (omega arith)) in
    number-drop start xs (λ k l. zeros (suc k) (omega arith)) ∙ ap (λ n. number_from_digits_after 256 n xs) first

-- octets without zeros in front, but for the last of them
pub significant_is : (octets : List ℕ) (start : ℕ) → IsOctets octets → length octets ≤ 8 → start < length octets
    → ((k : ℕ) → k < start → get_or octets k 0 ≡ 0) → (start + 1 < length octets → 0 < get_or octets start 0) → drop start octets ≡ least_number (number octets)
significant_is octets start p l within zeros first =
    let rest : length (drop start octets) ≡ length octets - start = length-drop start octets in
    let front : get_or (drop start octets) 0 0 ≡ get_or octets (start + 0) 0 = get_or-drop start octets 0 0 in
    least_number_is _ _
    (record { are_octets = octets_drop start octets p; sized = (omega arith, omega arith); is = number-drop start octets zeros })
    (λ two. rw (front, add-zero) (first (omega arith)))

pub number-to_be_bytes : (n : ℕ) → n < 2 ^ 64 → number (to_be_bytes w64 n) ≡ n
number-to_be_bytes n h = omega (arith, from_be_bytes-to_be_bytes_8 n h)

-- ---- numbers of a range

pub number_range : (width n : ℕ) (octets : List ℕ) → NumberContents 0 (2 ^ width - 1) n octets → n < 2 ^ width
number_range width n octets h = omega (arith, h.most, pow_pos width)

pub number_written_in : (low high n : ℕ) → low ≤ n → n ≤ high → n < 2 ^ 64 → NumberContents low high n (least_number n)
number_written_in low high n least most below =
    let w = least_spells n below in
    record { are_octets = w.are_octets; sized = w.sized; is = w.is; least = least; most = most }

pub number_written : (width n : ℕ) → width ≤ 64 → n < 2 ^ width → NumberContents 0 (2 ^ width - 1) n (least_number n)
number_written width n w h =
    let room : 2 ^ width ≤ 2 ^ 64 = pow-le-pow_right (omega arith) w in
    number_written_in 0 (2 ^ width - 1) n (omega arith) (omega (arith, pow_pos width)) (omega arith)

pub number_least : (low high n : ℕ) (octets : List ℕ) → NumberContents low high n octets → NoGreater (least_number n) octets
number_least low high n octets p =
    let h = spells low high n octets p in
    let w = least_spells n (spelled_below n octets h) in
    NoGreater-by_length _ _ (length-least_number n octets h) (λ l. number_same _ _ w.are_octets h.are_octets l (w.is ∙ sym h.is))

pub number_lengths : (low high n : ℕ) (octets : List ℕ) → NumberContents low high n octets → (1 ≤ length octets) × (length octets ≤ 8)
number_lengths low high n octets h = h.sized

-- ---- what begins contents

-- a least number of one octet fits any size
pub low_fits : (low size : ℕ) → low < 256 → HasNumberLength size → low < 256 ^ size
low_fits low size room h = let more : 256 ^ 1 ≤ 256 ^ size = pow-le-pow_right (omega arith) h.0 in omega arith

-- contents of a number are not refused at any place
pub misses_none : (low high n : ℕ) (octets : List ℕ) (place : ℕ) → MissesAt low high octets (length octets) place → NumberContents low high n octets → ⊥
misses_none low high n octets place h p =
    let whole : take (place + 1) octets ++ drop (place + 1) octets ≡ octets = take-append-drop (place + 1) octets in
    let same : number (take (place + 1) octets ++ drop (place + 1) octets) ≡ n = ap number whole ∙ p.is in
    h.2 (record { rest = drop (place + 1) octets; are_octets = octets_drop (place + 1) octets p.are_octets; sized = ap length whole; least = rw same p.least; most = rw same p.most })

-- behind a whole list of that size there is nothing
nothing_left : (a b : List ℕ) → length (a ++ b) ≡ length a → b ≡ []
nothing_left a [] e = refl
nothing_left a (x ∷ xs) e = absurd (omega (arith, length-append a (x ∷ xs)))

-- whole octets that begin contents of their size are contents
pub begun_whole : (low high : ℕ) (octets : List ℕ) → IsOctets octets → HasNumberLength (length octets) → BeginsNumber low high octets (length octets) → NumberContents low high (number octets) octets
begun_whole low high octets p sized h =
    let none : h.rest ≡ [] = nothing_left octets h.rest h.sized in
    let whole : octets ++ h.rest ≡ octets = ap (λ (l : List ℕ). octets ++ l) none ∙ append-nil octets in
    record { are_octets = p; sized = sized; is = refl; least = rw (← ap number whole) h.least; most = rw (← ap number whole) h.most }

-- ---- octets that are the fewest

pub written_if : (n : ℕ) (octets : List ℕ) → IsOctets octets → HasNumberLength (length octets) → number octets ≡ n → (1 < length octets → 0 < get_or octets 0 0) → octets ≡ least_number n
written_if n octets p sized is first = least_number_is n octets (record { are_octets = p; sized = sized; is = is }) first

-- a number of one octet
pub written_in_one : (n : ℕ) → n < 256 → least_number n ≡ n ∷ []
written_in_one n small = sym (written_if n (n ∷ []) (small, tt) (omega arith) (omega arith) (λ two. absurd (omega (arith, two))))

-- of two, of four, and of three, which are those of four without the first
pub written_in_two : (n : ℕ) → 256 ≤ n → n < 2 ^ 16 → to_be_bytes w16 n ≡ least_number n
written_in_two n least most = written_if n (to_be_bytes w16 n) (omega arith, (omega arith, tt)) (omega arith, omega arith) (omega (arith, from_be_bytes-to_be_bytes_2 n most)) (λ two. omega arith)

pub written_in_four : (n : ℕ) → 2 ^ 24 ≤ n → n < 2 ^ 32 → to_be_bytes w32 n ≡ least_number n
written_in_four n least most = written_if n (to_be_bytes w32 n) (omega arith, (omega arith, (omega arith, (omega arith, tt)))) (omega arith, omega arith) (omega (arith, from_be_bytes-to_be_bytes_4 n most)) (λ two. omega arith)

pub written_in_three : (n : ℕ) → 2 ^ 16 ≤ n → n < 2 ^ 24 → drop 1 (to_be_bytes w32 n) ≡ least_number n
written_in_three n least most = written_if n (drop 1 (to_be_bytes w32 n)) (omega arith, (omega arith, (omega arith, tt))) (omega arith, omega arith) (omega (arith, from_be_bytes-to_be_bytes_4 n (omega arith))) (λ two. omega arith)

-- the last octets of the four, so many as are written
pub written_in_word : (n k : ℕ) → n < 2 ^ 32 → (n < 2 ^ 8 → k ≡ 1) → (2 ^ 8 ≤ n → n < 2 ^ 16 → k ≡ 2) → (2 ^ 16 ≤ n → n < 2 ^ 24 → k ≡ 3) → (2 ^ 24 ≤ n → k ≡ 4) → drop (4 - k) (to_be_bytes w32 n) ≡ least_number n
written_in_word n k most one two three four = elim (cases_lt n (2 ^ 8)) [
  | inl lt ↦ rw (one lt) (ap (λ (o : ℕ). o ∷ []) (omega arith) ∙ sym (written_in_one n lt))
  | inr ge ↦ elim (cases_lt n (2 ^ 16)) [
    | inl lt ↦ rw (two ge lt) (written_in_two n ge lt)
    | inr ge ↦ elim (cases_lt n (2 ^ 24)) [
      | inl lt ↦ rw (three ge lt) (written_in_three n ge lt)
      | inr ge ↦ rw (four ge) (written_in_four n ge most)
    ]
  ]
]

-- the four octets moved to the front, so that so many of them are left
four_alike : (a b c d x y z w : ℕ) → a ≡ x → b ≡ y → c ≡ z → d ≡ w → a ∷ b ∷ c ∷ d ∷ [] ≡ x ∷ y ∷ z ∷ w ∷ []
four_alike a b c d x y z w p q r s = rw (p, q, r, s) refl

pub front_of_word : (n k moved : ℕ) → n < 2 ^ 32 → 1 ≤ k → k ≤ 4 → moved ≡ n * 2 ^ (32 - 8 * k) % 2 ^ 32 → take k (to_be_bytes w32 moved) ≡ drop (4 - k) (to_be_bytes w32 n)
front_of_word n zero moved below some most e = absurd (omega (arith, some))
front_of_word n (suc zero) moved below some most e = ap (take 1) (four_alike (moved / 16777216 % 256) (moved / 65536 % 256) (moved / 256 % 256) (moved % 256) (n % 256) 0 0 0 (omega (arith, e, below)) (omega (arith, e, below)) (omega (arith, e, below)) (omega (arith, e, below)))
front_of_word n (suc (suc zero)) moved below some most e = ap (take 2) (four_alike (moved / 16777216 % 256) (moved / 65536 % 256) (moved / 256 % 256) (moved % 256) (n / 256 % 256) (n % 256) 0 0 (omega (arith, e, below)) (omega (arith, e, below)) (omega (arith, e, below)) (omega (arith, e, below)))
front_of_word n (suc (suc (suc zero))) moved below some most e = ap (take 3) (four_alike (moved / 16777216 % 256) (moved / 65536 % 256) (moved / 256 % 256) (moved % 256) (n / 65536 % 256) (n / 256 % 256) (n % 256) 0 (omega (arith, e, below)) (omega (arith, e, below)) (omega (arith, e, below)) (omega (arith, e, below)))
front_of_word n (suc (suc (suc (suc zero)))) moved below some most e = four_alike (moved / 16777216 % 256) (moved / 65536 % 256) (moved / 256 % 256) (moved % 256) (n / 16777216 % 256) (n / 65536 % 256) (n / 256 % 256) (n % 256) (omega (arith, e, below)) (omega (arith, e, below)) (omega (arith, e, below)) (omega (arith, e, below))
front_of_word n (suc (suc (suc (suc (suc k))))) moved below some most e = absurd (omega (arith, most))

-- ---- numbers at the front of octets

-- of so many octets, by the first four
pub number_front : (octets : List ℕ) (size word n : ℕ) → 4 ≤ length octets → 1 ≤ size → size ≤ 4 → ((i : ℕ) → get_or octets i 0 < 256)
    → word ≡ get_or octets 0 0 * 16777216 + get_or octets 1 0 * 65536 + get_or octets 2 0 * 256 + get_or octets 3 0 → n ≡ word / 2 ^ (32 - 8 * size) → n ≡ number (take size octets)
number_front (a ∷ b ∷ c ∷ d ∷ rest) zero word n long some most are e f = absurd (omega (arith, some))
number_front (a ∷ b ∷ c ∷ d ∷ rest) (suc zero) word n long some most are e f = omega (arith, e, f, are 0, are 1, are 2, are 3)
number_front (a ∷ b ∷ c ∷ d ∷ rest) (suc (suc zero)) word n long some most are e f = omega (arith, e, f, are 0, are 1, are 2, are 3)
number_front (a ∷ b ∷ c ∷ d ∷ rest) (suc (suc (suc zero))) word n long some most are e f = omega (arith, e, f, are 0, are 1, are 2, are 3)
number_front (a ∷ b ∷ c ∷ d ∷ rest) (suc (suc (suc (suc zero)))) word n long some most are e f = omega (arith, e, f, are 0, are 1, are 2, are 3)
number_front (a ∷ b ∷ c ∷ d ∷ rest) (suc (suc (suc (suc (suc k))))) word n long some most are e f = absurd (omega (arith, most))
number_front (a ∷ b ∷ c ∷ []) size word n long some most are e f = absurd (omega (arith, long))
number_front (a ∷ b ∷ []) size word n long some most are e f = absurd (omega (arith, long))
number_front (a ∷ []) size word n long some most are e f = absurd (omega (arith, long))
number_front [] size word n long some most are e f = absurd (omega (arith, long))

-- ---- octets in front of the last four

-- a number below 2^32 is that of its last four octets
pub last_four : (octets : List ℕ) (start : ℕ) → IsOctets octets → start + 4 ≤ length octets → number octets < 2 ^ 32 → number (drop start octets) ≡ number octets
last_four octets start p within below =
    let split : number (take start octets ++ drop start octets) ≡ number (take start octets) * 256 ^ length (drop start octets) + number (drop start octets) = number-append (take start octets) (drop start octets) in
    let whole : number (take start octets ++ drop start octets) ≡ number octets = ap number (take-append-drop start octets) in
    let rest : length (drop start octets) ≡ length octets - start = length-drop start octets in
    let exponent : 4 ≤ length (drop start octets) = omega arith in
    let worth : 256 ^ 4 ≤ 256 ^ length (drop start octets) = pow-le-pow_right (lit≤ tt) exponent in
    elim (zero_or_some (number (take start octets))) [
      | inl none ↦
          let nothing : number (take start octets) * 256 ^ length (drop start octets) ≡ 0 * 256 ^ length (drop start octets) = ap (λ (n : ℕ). n * 256 ^ length (drop start octets)) none in
          omega arith
      | inr some ↦
          let much : 1 * 256 ^ length (drop start octets) ≤ number (take start octets) * 256 ^ length (drop start octets) = mul-le-mul_right (256 ^ length (drop start octets)) some in
          absurd (omega arith)
    ]
  where
    zero_or_some : (n : ℕ) → (n ≡ 0) ⊎ (1 ≤ n)
    zero_or_some zero = inl refl
    zero_or_some (suc n) = inr (omega arith)

-- the last four octets, or all of fewer
pub last_of : (octets : List ℕ) (start : ℕ) → IsOctets octets → start ≡ length octets - 4 → number octets < 2 ^ 32 → number (drop start octets) ≡ number octets
last_of octets start p e below = elim (cases_lt (length octets) 4) [
  | inl short ↦ let none : start ≡ 0 = omega (arith, e) in ap (λ (n : ℕ). number (drop n octets)) none
  | inr long ↦ last_four octets start p (omega (arith, e)) below
]

-- ---- what `is_empty` tells

pub some_octets : (octets : List ℕ) → false ≡ eqb (length octets) 0 → 1 ≤ length octets
some_octets octets e = let other = eqb-false (length octets) 0 (sym e) in omega arith

pub no_octets : (octets : List ℕ) → true ≡ eqb (length octets) 0 → length octets ≡ 0
no_octets octets e = eqb-true (length octets) 0 (sym e)
