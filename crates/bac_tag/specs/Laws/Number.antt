-- Numbers in octets, and what begins those of a range.
use Rattle.std.proofs.Common.{◌≡◌, ℕ, zero, suc, ◌<◌, ◌≤◌, ◌^◌, ◌+◌, ◌*◌, ◌-◌, ◌⊎◌, List, [], ◌∷◌, ◌++◌, length, take, get_or, arith, ◌∙◌, ap, refl, inl, inr, replicate, length-append}
use Rattle.std.proofs.lemmas.Bool.{cases_lt}
use Rattle.std.proofs.lemmas.List.{length-replicate}
use Rattle.std.specs.Int.Digits.{number_from_digits_after, digits_of}
use Rattle.std.proofs.lemmas.Int.Digits.{number_lt, number_digits_of, all_below_base_digits_of, length-digits_of-le, number_after_append}
use Rattle.std.proofs.lemmas.Nat.{pow-add}
use Rattle.std.proofs.Math.Nat.{pow-suc, one-le-pow, mul-le-mul_right, pow-le-pow_right}
use Rattle.bac_tag.specs.Octets.{IsOctets}
use Rattle.bac_tag.specs.Number.{number, BeginsNumber}
use Rattle.std.proofs.lemmas.Int.Digits.{number_more}
use Rattle.std.proofs.Common.{length-take}
use Rattle.bac_tag.specs.Laws.Octets.{octets_at, octets_take}

-- as many octets behind two numbers that give one number are the same, and so are the two
after_same : (m n : ℕ) (a b : List ℕ) → IsOctets a → IsOctets b → length a ≡ length b → number_from_digits_after 256 m a ≡ number_from_digits_after 256 n b → (m ≡ n) × (a ≡ b)
after_same m n [] [] p q l e = (e, refl)
after_same m n [] (y ∷ ys) p q l e = absurd (omega arith)
after_same m n (x ∷ xs) [] p q l e = absurd (omega arith)
after_same m n (x ∷ xs) (y ∷ ys) p q l e =
    let h = after_same (m * 256 + x) (n * 256 + y) xs ys p.1 q.1 (omega arith) e in
    let here : x ≡ y = omega (arith, h.0, p.0, q.0) in
    (omega (arith, h.0, p.0, q.0), cc (here, h.1))

-- as many octets that spell one number are the same
pub number_same : (a b : List ℕ) → IsOctets a → IsOctets b → length a ≡ length b → number a ≡ number b → a ≡ b
number_same a b p q l e = (after_same 0 0 a b p q l e).1

-- at most eight octets spell a number of 64 bits
pub number_fits : (octets : List ℕ) → IsOctets octets → length octets ≤ 8 → number octets < 2 ^ 64
number_fits octets p l =
    let below : number octets < 256 ^ length octets = number_lt 256 octets p in
    let whole : 256 ^ length octets ≤ 256 ^ 8 = pow-le-pow_right (omega arith) l in
    omega arith

-- what stands in front counts for its place
pub number_after_is : (n : ℕ) (octets : List ℕ) → number_from_digits_after 256 n octets ≡ n * 256 ^ length octets + number octets
number_after_is n [] = omega arith
number_after_is n (x ∷ xs) =
    let one : number_from_digits_after 256 (n * 256 + x) xs ≡ (n * 256 + x) * 256 ^ length xs + number xs = number_after_is (n * 256 + x) xs in
    let other : number_from_digits_after 256 (0 * 256 + x) xs ≡ (0 * 256 + x) * 256 ^ length xs + number xs = number_after_is (0 * 256 + x) xs in
    let place : n * 256 ^ length (x ∷ xs) ≡ n * (256 ^ length xs * 256) = ap (λ p. n * p) (pow-suc 256 (length xs)) in
    omega arith

pub number-append : (a b : List ℕ) → number (a ++ b) ≡ number a * 256 ^ length b + number b
number-append a b = number_after_append 256 0 a b ∙ number_after_is (number a) b

zeros_number : (k : ℕ) (octets : List ℕ) → number (replicate k 0 ++ octets) ≡ number octets
zeros_number zero octets = refl
zeros_number (suc k) octets = zeros_number k octets

octets_zeros : (k : ℕ) (octets : List ℕ) → IsOctets octets → IsOctets (replicate k 0 ++ octets)
octets_zeros zero octets h = h
octets_zeros (suc k) octets h = (omega arith, octets_zeros k octets h)

-- each number below 256 ^ k has k octets
pub padded : ℕ → ℕ → List ℕ
padded k n = replicate (k - length (digits_of 256 n)) 0 ++ digits_of 256 n

padded_number : (k n : ℕ) → number (padded k n) ≡ n
unfolding padded
padded_number k n = zeros_number (k - length (digits_of 256 n)) (digits_of 256 n) ∙ number_digits_of 256 n (omega arith)

padded_octets : (k n : ℕ) → IsOctets (padded k n)
unfolding padded
padded_octets k n = octets_zeros (k - length (digits_of 256 n)) (digits_of 256 n) (all_below_base_digits_of 256 n (omega arith))

length-padded : (k n : ℕ) → n < 256 ^ k → length (padded k n) ≡ k
unfolding padded
length-padded k n h =
    let fits : length (digits_of 256 n) ≤ k = length-digits_of-le 256 k n (omega arith) h in
    omega (arith, length-append (replicate (k - length (digits_of 256 n)) 0) (digits_of 256 n), length-replicate {A = ℕ} (k - length (digits_of 256 n)) 0)

-- what a front can still become lies between its number with zeros behind it and with 255 behind it
pub begins_number : (low high : ℕ) (front : List ℕ) (size rest : ℕ) → length front + rest ≡ size → low ≤ high
    → number front * 256 ^ rest ≤ high → low < number front * 256 ^ rest + 256 ^ rest → BeginsNumber low high front size
begins_number low high front size rest e range most least =
    let some : 1 ≤ 256 ^ rest = one-le-pow rest 256 (omega arith) in
    let n : ℕ = low - number front * 256 ^ rest in
    let fits : n < 256 ^ rest = omega arith in
    let long : length (padded rest n) ≡ rest = length-padded rest n fits in
    let whole : number (front ++ padded rest n) ≡ number front * 256 ^ length (padded rest n) + number (padded rest n) = number-append front (padded rest n) in
    let place : number front * 256 ^ length (padded rest n) ≡ number front * 256 ^ rest = ap (λ k. number front * 256 ^ k) long in
    let back : number (padded rest n) ≡ n = padded_number rest n in
    record {
      rest = padded rest n;
      are_octets = padded_octets rest n;
      sized = omega (arith, length-append front (padded rest n));
      least = omega arith;
      most = omega arith;
    }

pub begins_number_only : (low high : ℕ) (front : List ℕ) (size rest : ℕ) → length front + rest ≡ size → BeginsNumber low high front size
    → (number front * 256 ^ rest ≤ high) × (low < number front * 256 ^ rest + 256 ^ rest)
begins_number_only low high front size rest e h =
    let long : length h.rest ≡ rest = omega (arith, length-append front h.rest, h.sized) in
    let whole : number (front ++ h.rest) ≡ number front * 256 ^ length h.rest + number h.rest = number-append front h.rest in
    let place : number front * 256 ^ length h.rest ≡ number front * 256 ^ rest = ap (λ k. number front * 256 ^ k) long in
    let worth : 256 ^ length h.rest ≡ 256 ^ rest = ap (λ k. 256 ^ k) long in
    let below : number h.rest < 256 ^ length h.rest = number_lt 256 h.rest h.are_octets in
    (omega (arith, h.most), omega (arith, h.least))

-- so many octets in front of others, of eight at most
pub front_room : (front : List ℕ) (rest : ℕ) → IsOctets front → length front + rest ≤ 8 → (number front + 1) * 256 ^ rest ≤ 2 ^ 64
front_room front rest p l =
    let below : number front < 256 ^ length front = number_lt 256 front p in
    let whole : (number front + 1) * 256 ^ rest ≤ 256 ^ length front * 256 ^ rest = mul-le-mul_right (256 ^ rest) (omega arith) in
    let sum : 256 ^ (length front + rest) ≡ 256 ^ length front * 256 ^ rest = pow-add 256 (length front) rest in
    let room : 256 ^ (length front + rest) ≤ 256 ^ 8 = pow-le-pow_right (omega arith) l in
    omega arith

-- a front whose number misses the range in either direction begins none
pub misses_begins_none : (low high : ℕ) (front : List ℕ) (size rest : ℕ) → length front + rest ≡ size
    → (high < number front * 256 ^ rest) ⊎ (number front * 256 ^ rest + 256 ^ rest ≤ low) → BeginsNumber low high front size → ⊥
misses_begins_none low high front size rest e (inl above) h = let two = begins_number_only low high front size rest e h in omega (arith, two.0)
misses_begins_none low high front size rest e (inr below) h = let two = begins_number_only low high front size rest e h in omega (arith, two.1)

-- and one whose number does not begins some
pub meets_begins : (low high : ℕ) (front : List ℕ) (size rest : ℕ) → length front + rest ≡ size → low ≤ high
    → ((high < number front * 256 ^ rest) ⊎ (number front * 256 ^ rest + 256 ^ rest ≤ low) → ⊥) → BeginsNumber low high front size
meets_begins low high front size rest e range meets = elim (cases_lt high (number front * 256 ^ rest)) [
  | inl above ↦ absurd (meets (inl above))
  | inr most ↦ elim (cases_lt low (number front * 256 ^ rest + 256 ^ rest)) [
    | inl least ↦ begins_number low high front size rest e range most least
    | inr below ↦ absurd (meets (inr below))
  ]
]

-- one octet more of at most eight
pub number_step_fits : (octets : List ℕ) (i : ℕ) → ((k : ℕ) → get_or octets k 0 < 256) → length octets ≤ 8 → i < length octets → number (take i octets) * 256 + get_or octets i 0 < 2 ^ 64
number_step_fits octets i small l within =
    let more : number (take (i + 1) octets) ≡ number (take i octets) * 256 + get_or octets i 0 = number_more 256 octets i within in
    let fits : number (take (i + 1) octets) < 2 ^ 64 = number_fits (take (i + 1) octets) (octets_take (i + 1) octets (octets_at octets small)) (omega (arith, length-take (i + 1) octets)) in
    omega arith
