-- Bit strings as contents: a count of unused bits, then the bits (clause 20.2.10). A value is a list of bits. Octets hold them
-- eight each, the first in bit 7.
use Rattle.std.specs.Prelude.{◌≡◌, ℕ, ◌<◌, ◌≤◌, ◌+◌, ◌-◌, ◌*◌, ◌/◌, ◌%◌, ◌==◌, Bool, false, List, [], ◌∷◌, length, map, slice_index, if◌then◌else◌}
use Rattle.std.specs.List.{slice_index_or, range_with_len}
use Rattle.std.specs.Int.{bit_at}
use Rattle.bac_tag.specs.Octets.{IsOctets}

-- The bit at place k of octets, each from bit 7 downwards.
abbrev pub bit_in : List ℕ → ℕ → Bool
bit_in packed k = bit_at (slice_index packed (k / 8)) (7 - k % 8) == 1

-- The octets hold the bits, with so many unused bits after them. The unused bits are fewer than eight, and with the bits they
-- fill the octets. There are fewer than 1,048,576 octets. The bit at each place is the one of the list. The unused bits are
-- last and may be any.
pub record HoldsBits (bits : List Bool) (unused : ℕ) (packed : List ℕ) : Type 0 where
  pub few : unused < 8
  pub sized : length bits + unused ≡ 8 * length packed
  pub are_octets : IsOctets packed
  pub within : length packed < 1048576
  pub agree : (k : ℕ) → k < length bits → slice_index_or bits k false ≡ bit_in packed k

-- The list is an octet with the count of unused bits, and after it octets that hold the bits with that many unused. The empty
-- list is contents of no value.
abbrev pub BitsContents : List Bool → List ℕ → Type 0
BitsContents bits [] = ⊥
BitsContents bits (unused ∷ packed) = HoldsBits bits unused packed

-- There are at most 8,388,600 bits, eight for each octet after the count in the longest contents.
abbrev pub IsBits : List Bool → Type 0
IsBits bits = length bits ≤ 8388600

-- The worth of a bit in the lowest place: 1 or 0.
abbrev pub worth : Bool → ℕ
worth bit = if bit then 1 else 0

-- The octet of the eight bits from place k on, the first of them highest; past the end they are 0.
abbrev pub octet_from : List Bool → ℕ → ℕ
octet_from bits k =
    128 * worth (slice_index_or bits k false) + 64 * worth (slice_index_or bits (k + 1) false) + 32 * worth (slice_index_or bits (k + 2) false) + 16 * worth (slice_index_or bits (k + 3) false)
    + 8 * worth (slice_index_or bits (k + 4) false) + 4 * worth (slice_index_or bits (k + 5) false) + 2 * worth (slice_index_or bits (k + 6) false) + worth (slice_index_or bits (k + 7) false)

-- The least number of octets that hold that many bits.
abbrev pub octets_for : ℕ → ℕ
octets_for n = (n + 7) / 8

-- The fewest octets that hold the bits, with the unused bits 0.
unfoldable pub packed_bits : List Bool → List ℕ
packed_bits bits = map (λ i. octet_from bits (8 * i)) (range_with_len 0 (octets_for (length bits)))

-- The contents that are written of the bits: the count of unused bits, and the fewest octets that hold the bits, with the
-- unused bits 0.
unfoldable pub least_bits : List Bool → List ℕ
least_bits bits = (8 * octets_for (length bits) - length bits) ∷ packed_bits bits

-- That many bits at the front of octets.
abbrev pub bits_in : List ℕ → ℕ → List Bool
bits_in packed count = map (bit_in packed) (range_with_len 0 count)

-- The bits that a list spells as contents.
unfoldable pub bits_of : List ℕ → List Bool
bits_of [] = []
bits_of (unused ∷ packed) = bits_in packed (8 * length packed - unused)

-- The list is what is written of the bits that it spells, and these are at most 8,388,600. A Bits is held so.
pub record IsLeastBits (octets : List ℕ) : Type 0 where
  pub is : octets ≡ least_bits (bits_of octets)
  pub are_bits : IsBits (bits_of octets)

-- Contents of that many octets can begin with this count of unused bits: it is below 8, and 0 if no octet follows.
abbrev pub CountsUnused : ℕ → ℕ → Type 0
CountsUnused unused size = (unused < 8) × (unused ≤ 8 * (size - 1))

-- The octets hold that many bits and nothing else. They are no more than the bits need, and the bits after the last one are
-- zero.
pub record IsPacked (count : ℕ) (packed : List ℕ) : Type 0 where
  pub few : length packed ≡ octets_for count
  pub unused : (k : ℕ) → count ≤ k → k < 8 * length packed → bit_in packed k ≡ false
