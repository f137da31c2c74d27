-- Enumerated values are numbers.
use Rattle.std.specs.Prelude.{min, Option, Some, None, IfSome}
use Rattle.std.proofs.lemmas.Bool.{cases_lt}
use Rattle.std.proofs.Common.{◌≡◌, ℕ, ◌≤◌, ◌<◌, ◌+◌, ◌*◌, ◌^◌, ◌-◌, ◌⊎◌, List, [], ◌∷◌, length, take, drop, get_or, refl, sym, ◌∙◌, ap, inl, inr, arith, lit≤, lit<, length-drop, length-take}
use Rattle.std.proofs.Math.Nat.{pow-le-pow_right, mul-le-mul_right}
use Rattle.std.proofs.lemmas.Nat.{pow-add}
use Rattle.std.proofs.lemmas.List.{get_or-take}
use Rattle.std.proofs.lemmas.Int.Digits.{number_lt, number_more}
use Rattle.bac_tag.specs.Laws.Octets.{octets_take, octets_drop}
use Rattle.bac_tag.specs.Octets.{IsOctets}
use Rattle.bac_tag.specs.Number.{number}
use Rattle.bac_tag.specs.Laws.Number.{begins_number, begins_number_only}
use Rattle.bac_value.specs.declared.types.enumeration.Enumerated.{Enumerated}
use Rattle.bac_value.specs.Primitives.{IsBegun, IsHopelessAt}
use Rattle.bac_numbers.specs.Numbers.{NumberContents}
use Rattle.bac_numbers.specs.Laws.Numbers.{number-drop}
use Rattle.bac_value.specs.Laws.NumberTypes.{number_begun, number_begins, number_each_length}

abbrev pub enumerated_number : Enumerated → ℕ
enumerated_number value = value.0

abbrev pub enumerated_of : ℕ → Enumerated
enumerated_of n = record { 0 = n }

pub one_enumerated : (a b : Enumerated) (octets : List ℕ) → NumberContents 0 (2 ^ 32 - 1) a.0 octets → NumberContents 0 (2 ^ 32 - 1) b.0 octets → a ≡ b
one_enumerated a b octets p q = ap enumerated_of (sym p.is ∙ q.is)

pub enumerated_each_length : (size : ℕ) → 1 ≤ size → size ≤ 8 → IsBegun (λ (value : Enumerated) octets. NumberContents 0 (2 ^ 32 - 1) value.0 octets) [] size
enumerated_each_length = number_each_length enumerated_number enumerated_of (λ n. refl) 0 (2 ^ 32 - 1) (lit≤ tt) (lit< tt)

-- ---- octets in front of the last four

positive : (front : List ℕ) (rest : ℕ) → 0 < number front * 256 ^ rest + 256 ^ rest
positive front rest =
    let exponent : 0 ≤ rest = omega arith in
    let some : 256 ^ 0 ≤ 256 ^ rest = pow-le-pow_right (lit≤ tt) exponent in
    omega arith

-- octets worth nothing, or four at most with those behind them
small_enough : (front back : List ℕ) (rest : ℕ) → IsOctets back → number front ≡ number back → (length back ≡ 0) ⊎ (length back + rest ≤ 4) → number front * 256 ^ rest ≤ 2 ^ 32 - 1
small_enough front [] rest p e (inl none) =
    let nothing : number front * 256 ^ rest ≡ 0 * 256 ^ rest = ap (λ (n : ℕ). n * 256 ^ rest) e in
    omega arith
small_enough front (x ∷ xs) rest p e (inl none) = absurd (omega (arith, none))
small_enough front back rest p e (inr four) =
    let below : number back < 256 ^ length back = number_lt 256 back p in
    let whole : (number back + 1) * 256 ^ rest ≤ 256 ^ length back * 256 ^ rest = mul-le-mul_right (256 ^ rest) (omega arith) in
    let sum : 256 ^ (length back + rest) ≡ 256 ^ length back * 256 ^ rest = pow-add 256 (length back) rest in
    let room : 256 ^ (length back + rest) ≤ 256 ^ 4 = pow-le-pow_right (lit≤ tt) four in
    let some : 0 < number front * 256 ^ rest + 256 ^ rest = positive front rest in
    let same : number front * 256 ^ rest ≡ number back * 256 ^ rest = ap (λ (n : ℕ). n * 256 ^ rest) e in
    let exponent : 0 ≤ rest = omega arith in
    let one : 256 ^ 0 ≤ 256 ^ rest = pow-le-pow_right (lit≤ tt) exponent in
    omega arith

-- with zeros in front of the last four of so many octets any number can follow,
pub four_begun : (front : List ℕ) (size wide : ℕ) → IsOctets front → length front ≤ size → (1 ≤ size) × (size ≤ 8) → wide ≤ length front → (wide ≡ length front) ⊎ (size ≤ wide + 4) → ((k : ℕ) → k < wide → get_or front k 0 ≡ 0)
    → IsBegun (λ (value : Enumerated) octets. NumberContents 0 (2 ^ 32 - 1) value.0 octets) front size
four_begun front size wide p within sized le place zeros =
    let rest : ℕ = size - length front in
    let back : length (drop wide front) ≡ length front - wide = length-drop wide front in
    let behind : (length (drop wide front) ≡ 0) ⊎ (length (drop wide front) + rest ≤ 4) = elim place [
      | inl all ↦ inl (omega (arith, all))
      | inr four ↦ inr (omega (arith, four))
    ] in
    number_begun enumerated_number enumerated_of (λ n. refl) 0 (2 ^ 32 - 1) front size p sized
    (begins_number 0 (2 ^ 32 - 1) front size rest (omega arith) (lit≤ tt) (small_enough front (drop wide front) rest (octets_drop wide front p) (sym (number-drop wide front zeros)) behind) (positive front rest))

-- and with another octet there none can
pub four_hopeless : (front : List ℕ) (size place : ℕ) → IsOctets front → length front ≤ size → (1 ≤ size) × (size ≤ 8) → place < length front → place + 4 < size → ((k : ℕ) → k < place → get_or front k 0 ≡ 0) → 0 < get_or front place 0
    → IsHopelessAt (λ (value : Enumerated) octets. NumberContents 0 (2 ^ 32 - 1) value.0 octets) front size place
four_hopeless front size place p within sized le four zeros some =
    let front_is : length (take place front) ≡ place = omega (arith, length-take place front) in
    let long : length (take (place + 1) front) ≡ place + 1 = omega (arith, length-take (place + 1) front) in
    let step : number (take (place + 1) front) ≡ number (take place front) * 256 + get_or front place 0 = number_more 256 front place le in
    let rest : ℕ = size - place - 1 in
    let exponent : 4 ≤ rest = omega arith in
    let worth : 256 ^ 4 ≤ 256 ^ rest = pow-le-pow_right (lit≤ tt) exponent in
    let much : 1 * 256 ^ rest ≤ number (take (place + 1) front) * 256 ^ rest = mul-le-mul_right (256 ^ rest) (omega arith) in (
      le,
      four_begun (take place front) size place (octets_take place front p) (omega arith) sized (omega arith) (inl (omega (arith, front_is))) (λ k l. get_or-take place front k 0 l ∙ zeros k l),
      λ begun.
          let two = begins_number_only 0 (2 ^ 32 - 1) (take (place + 1) front) size rest (omega (arith, long)) (number_begins enumerated_number enumerated_of (λ n. refl) 0 (2 ^ 32 - 1) (take (place + 1) front) size begun) in
          omega (arith, two.0),
    )

-- zeros in a front are zeros of the whole
pub front_zeros : (front : List ℕ) (wide : ℕ) → wide ≤ length front → ((k : ℕ) → k < length (take wide front) → get_or (take wide front) k 0 ≡ 0) → (k : ℕ) → k < wide → get_or front k 0 ≡ 0
front_zeros front wide le zeros k l = sym (get_or-take wide front k 0 l) ∙ zeros k (omega (arith, length-take wide front))

-- all of a front, or all but four of a size
pub all_or_but_four : (long size wide : ℕ) → wide ≡ min long (size - 4) → (wide ≤ long) × ((wide ≡ long) ⊎ (size ≤ wide + 4))
all_or_but_four long size wide e = (
  omega arith,
  elim (cases_lt long (size - 4)) [
    | inl less ↦ inl (omega arith)
    | inr more ↦ inr (omega arith)
  ],
)

-- the first octet that is not 0, where all or all but four were looked at
pub looked_place : (front : List ℕ) (size wide : ℕ) (place : Option ℕ) → IsOctets front → length front ≤ size → (1 ≤ size) × (size ≤ 8) → (wide ≤ length front) × ((wide ≡ length front) ⊎ (size ≤ wide + 4)) → wide ≡ min (length front) (size - 4)
    → IfSome place (λ p. p < length (take wide front)) → IfSome place (λ p. (k : ℕ) → k < p → get_or (take wide front) k 0 ≡ 0) → IfSome place (λ p. 0 < get_or (take wide front) p 0)
    → IfSome place (IsHopelessAt (λ (value : Enumerated) octets. NumberContents 0 (2 ^ 32 - 1) value.0 octets) front size)
looked_place front size wide None p within sized w e below zeros other = tt
looked_place front size wide (Some place) p within sized w e below zeros other =
    let shorter : place < wide = omega (arith, below, length-take wide front) in
    let same : get_or (take wide front) place 0 ≡ get_or front place 0 = get_or-take wide front place 0 shorter in
    four_hopeless front size place p within sized (omega (arith, shorter, w.0)) (omega (arith, shorter, e)) (λ k l. let less : k < wide = omega (arith, l, shorter) in sym (get_or-take wide front k 0 less) ∙ zeros k l) (omega (arith, same, other))
