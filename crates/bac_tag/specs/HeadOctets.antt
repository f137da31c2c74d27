-- The octets of the head of a PDU, a fixed number of them: each has numbers and flags, and its other bits are free.
use Rattle.std.specs.Prelude.{◌≡◌, ℕ, ◌+◌, ◌*◌, ◌/◌, ◌%◌, ◌^◌, ◌<◌, ◌≤◌, Bool, true, false, Option, Some, None, List, [], ◌∷◌, map}

-- The number is a window size, from 1 to 127.
abbrev pub IsWindow : ℕ → Type 0
IsWindow n = (1 ≤ n) × (n ≤ 127)

-- What one octet of the head of a PDU says: numbers and flags in some of its bits.
pub data Part : Type 0 where
  -- bits 7 to 4 are a number; bits 3, 2, 1 and 0 are a flag each, or free
  typed : ℕ → Option Bool → Option Bool → Option Bool → Option Bool → Part
  -- bit 7 is free; bits 6 to 4 and bits 3 to 0 are a number each
  limits : ℕ → ℕ → Part
  -- a number
  octet : ℕ → Part
  -- a number from 1 to 127
  window : ℕ → Part

-- The bit of a flag: 1 for true and 0 for false.
abbrev pub bit_of : Bool → ℕ
bit_of true = 1
bit_of false = 0

-- The bit at this place of the octet is the flag, or there is no flag and the bit is free. Bit 0 is the lowest.
abbrev pub HasBit : ℕ → Option Bool → ℕ → Type 0
HasBit place None o = Unit {0}
HasBit place (Some flag) o = o / 2 ^ place % 2 ≡ bit_of flag

-- The octet spells the part. Bits that the part does not speak of are free.
abbrev pub SpellsPart : Part → ℕ → Type 0
SpellsPart (typed type third second first zeroth) o = (o / 16 ≡ type) × HasBit 3 third o × HasBit 2 second o × HasBit 1 first o × HasBit 0 zeroth o
SpellsPart (limits segs resp) o = (o < 256) × (o / 16 % 8 ≡ segs) × (o % 16 ≡ resp)
SpellsPart (octet n) o = (o ≡ n) × (o < 256)
SpellsPart (window n) o = (o ≡ n) × IsWindow n

-- The list is an octet for each part, and after them a list of which Body holds.
abbrev pub Headed : List Part → (List ℕ → Type 0) → List ℕ → Type 0
Headed [] Body b = Body b
Headed (p ∷ ps) Body [] = ⊥
Headed (p ∷ ps) Body (o ∷ b) = SpellsPart p o × Headed ps Body b

-- ---- the least octets

-- The bit of a flag, or 0 if there is no flag.
abbrev pub bit_or_zero : Option Bool → ℕ
bit_or_zero None = 0
bit_or_zero (Some flag) = bit_of flag

-- The octet of the part with each free bit 0.
abbrev pub least_part : Part → ℕ
least_part (typed type third second first zeroth) = 16 * type + 8 * bit_or_zero third + 4 * bit_or_zero second + 2 * bit_or_zero first + bit_or_zero zeroth
least_part (limits segs resp) = 16 * segs + resp
least_part (octet n) = n
least_part (window n) = n

-- The octets of the parts with each free bit 0.
abbrev pub least_head : List Part → List ℕ
least_head ps = map least_part ps

-- Every number of the part is in its range. The number of a typed part has no range here.
abbrev pub IsPart : Part → Type 0
IsPart (typed type third second first zeroth) = Unit {0}
IsPart (limits segs resp) = (segs < 8) × (resp < 16)
IsPart (octet n) = n < 256
IsPart (window n) = IsWindow n

-- Every number of each of the parts is in its range.
abbrev pub AreParts : List Part → Type 0
AreParts [] = Unit {0}
AreParts (p ∷ ps) = IsPart p × AreParts ps
