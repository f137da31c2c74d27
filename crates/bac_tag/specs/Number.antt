-- Numbers in octets, the most significant octet first.
use Rattle.std.specs.Prelude.{◌≡◌, ℕ, ◌<◌, ◌≤◌, List, length, ◌++◌, ◌+◌, take}
use Rattle.std.specs.Int.Digits.{number_from_digits}
use Rattle.bac_tag.specs.Octets.{IsOctets}

-- The number that octets spell, the most significant octet first.
abbrev pub number : List ℕ → ℕ
number octets = number_from_digits 256 octets

-- The list has width octets, its number is n, and n is from low to high.
pub record NumberIn (width low high n : ℕ) (octets : List ℕ) : Type 0 where
  pub are_octets : IsOctets octets
  pub sized : length octets ≡ width
  pub is : number octets ≡ n
  pub least : low ≤ n
  pub most : n ≤ high

-- With some octets after it, or none, the front has width octets and a number from low to high. The definition does not require
-- that the front itself is octets.
pub record BeginsNumber (low high : ℕ) (front : List ℕ) (width : ℕ) : Type 0 where
  pub rest : List ℕ
  pub are_octets : IsOctets rest
  pub sized : length (front ++ rest) ≡ width
  pub least : low ≤ number (front ++ rest)
  pub most : number (front ++ rest) ≤ high

-- The octets before the place can still become width octets of a number from low to high, and with the octet at the place they
-- cannot. The place is one of the front.
abbrev pub MissesAt : ℕ → ℕ → List ℕ → ℕ → ℕ → Type 0
MissesAt low high front width place =
    (place < length front) × BeginsNumber low high (take place front) width × (BeginsNumber low high (take (place + 1) front) width → ⊥)
