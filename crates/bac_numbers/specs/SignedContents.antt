-- Signed integers as contents, in two's complement, the most significant octet first (clause 20.2.5).
use Rattle.std.specs.Prelude.{◌≡◌, ◌⊎◌, ℕ, ◌<◌, ◌≤◌, ◌-◌, List, ◌∷◌, length, map, slice_index, nat_lt, if◌then◌else◌, ℤ, pos, negsuc}
use Rattle.bac_tag.specs.Octets.{IsOctets}
use Rattle.bac_tag.specs.Number.{number}
use Rattle.bac_numbers.specs.Numbers.{HasNumberLength, least_number}

-- The octets with each bit turned, so each octet taken from 255.
abbrev pub complement : List ℕ → List ℕ
complement octets = map (λ octet. 255 - octet) octets

-- The number that octets spell in two's complement. It is their number if the highest bit of the first octet is 0, and else -1
-- minus the number of the complement.
unfoldable pub signed_number : List ℕ → ℤ
signed_number octets = if nat_lt (slice_index octets 0) 128 then pos (number octets) else negsuc (number (complement octets))

-- The list is 1 to 8 octets whose signed number is z. So a Signed is from -2 ^ 63 to 2 ^ 63 - 1.
pub record SignedContents (z : ℤ) (octets : List ℕ) : Type 0 where
  pub are_octets : IsOctets octets
  pub sized : HasNumberLength (length octets)
  pub is : signed_number octets ≡ z

-- The list with a zero octet at the front if the highest bit of its first octet is 1, and else the list as it is.
unfoldable pub with_sign_bit : List ℕ → List ℕ
with_sign_bit octets = if nat_lt (slice_index octets 0) 128 then octets else 0 ∷ octets

-- The fewest octets that spell z in two's complement. For z from 0 on they are with_sign_bit of least_number z; for a negative
-- z they are the complement of those of -1 - z.
unfoldable pub least_signed : ℤ → List ℕ
least_signed (pos n) = with_sign_bit (least_number n)
least_signed (negsuc n) = complement (with_sign_bit (least_number n))

-- The octet only repeats the sign of the next one: it is 0 before an octet below 128, or 255 before an octet from 128 on. So it
-- is of no use.
abbrev pub RepeatsSign : ℕ → ℕ → Type 0
RepeatsSign octet next = ((octet ≡ 0) × (next < 128)) ⊎ ((octet ≡ 255) × (128 ≤ next))
