-- Unsigned integers are numbers.
use Rattle.std.proofs.Common.{◌≡◌, ℕ, ◌≤◌, ◌+◌, ◌*◌, ◌^◌, ◌-◌, List, [], length, refl, sym, ◌∙◌, ap, arith, lit≤, lit<}
use Rattle.std.proofs.Math.Nat.{pow-le-pow_right}
use Rattle.bac_tag.specs.Octets.{IsOctets}
use Rattle.bac_tag.specs.Number.{number}
use Rattle.bac_tag.specs.Laws.Number.{begins_number, front_room}
use Rattle.bac_value.specs.declared.types.unsigned_integer.Unsigned.{Unsigned}
use Rattle.bac_value.specs.Primitives.{IsBegun}
use Rattle.bac_numbers.specs.Numbers.{NumberContents}
use Rattle.bac_value.specs.Laws.NumberTypes.{number_begun, number_each_length}

abbrev pub unsigned_number : Unsigned → ℕ
unsigned_number value = value.0

abbrev pub unsigned_of : ℕ → Unsigned
unsigned_of n = record { 0 = n }

pub one_unsigned : (a b : Unsigned) (octets : List ℕ) → NumberContents 0 (2 ^ 64 - 1) a.0 octets → NumberContents 0 (2 ^ 64 - 1) b.0 octets → a ≡ b
one_unsigned a b octets p q = ap unsigned_of (sym p.is ∙ q.is)

pub unsigned_each_length : (size : ℕ) → 1 ≤ size → size ≤ 8 → IsBegun (λ (value : Unsigned) octets. NumberContents 0 (2 ^ 64 - 1) value.0 octets) [] size
unsigned_each_length = number_each_length unsigned_number unsigned_of (λ n. refl) 0 (2 ^ 64 - 1) (lit≤ tt) (lit< tt)

-- each octets of eight at most begin a number
pub unsigned_begun : (front : List ℕ) (size : ℕ) → IsOctets front → length front ≤ size → (1 ≤ size) × (size ≤ 8) → IsBegun (λ (value : Unsigned) octets. NumberContents 0 (2 ^ 64 - 1) value.0 octets) front size
unsigned_begun front size p within sized =
    let rest : ℕ = size - length front in
    let room : (number front + 1) * 256 ^ rest ≤ 2 ^ 64 = front_room front rest p (omega (arith, sized.1)) in
    let exponent : 0 ≤ rest = omega arith in
    let some : 256 ^ 0 ≤ 256 ^ rest = pow-le-pow_right (lit≤ tt) exponent in
    number_begun unsigned_number unsigned_of (λ n. refl) 0 (2 ^ 64 - 1) front size p sized (begins_number 0 (2 ^ 64 - 1) front size rest (omega arith) (lit≤ tt) (omega arith) (omega arith))
