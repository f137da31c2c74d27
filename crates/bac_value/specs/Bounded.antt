-- Types whose values are the numbers of a range.
use Rattle.std.specs.Prelude.{◌≡◌, ℕ, ◌<◌, ◌≤◌, ◌^◌}

-- The values of a type are numbers: each value has a number, each number has a value, and each of these leads back to the
-- other. This holds of numbers outside of the range too; the contents of the type keep the range. The range from low to high is
-- not empty. Low is below 256, so it fits an octet, and high is below 2 ^ 64, so it fits eight.
pub record IsBounded {V : Type 0} (low high : ℕ) (number_of : V → ℕ) (value_of : ℕ → V) : Type 0 where
  pub number_of_value : (n : ℕ) → number_of (value_of n) ≡ n
  pub value_of_number : (value : V) → value_of (number_of value) ≡ value
  pub range : low ≤ high
  pub room : low < 256
  pub fits : high < 2 ^ 64
