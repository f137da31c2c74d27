-- The types whose values are the numbers of a range, with the contents of an Unsigned.
use Rattle.std.proofs.Common.{ℕ, ◌^◌, ◌-◌, refl, lit≤, lit<}
use Rattle.bac_value.specs.Bounded.{IsBounded}

-- each is seen as its number
pub priority_bounded : IsBounded 1 16 (λ (n : ℕ). n) (λ n. n)
priority_bounded = record { number_of_value = λ n. refl; value_of_number = λ value. refl; range = lit≤ tt; room = lit< tt; fits = lit< tt }

pub instance_bounded : IsBounded 0 4194303 (λ (n : ℕ). n) (λ n. n)
instance_bounded = record { number_of_value = λ n. refl; value_of_number = λ value. refl; range = lit≤ tt; room = lit< tt; fits = lit< tt }

pub unsigned16_bounded : IsBounded 0 (2 ^ 16 - 1) (λ (n : ℕ). n) (λ n. n)
unsigned16_bounded = record { number_of_value = λ n. refl; value_of_number = λ value. refl; range = lit≤ tt; room = lit< tt; fits = lit< tt }

pub unsigned32_bounded : IsBounded 0 (2 ^ 32 - 1) (λ (n : ℕ). n) (λ n. n)
unsigned32_bounded = record { number_of_value = λ n. refl; value_of_number = λ value. refl; range = lit≤ tt; room = lit< tt; fits = lit< tt }
