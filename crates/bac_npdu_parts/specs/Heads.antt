-- What the octets of a head say (clause 6.2).
use Rattle.std.specs.Prelude.{◌≡◌, ◌≢◌, ℕ, ◌+◌, ◌/◌, ◌%◌, ◌^◌, ◌<◌, ◌≤◌, cond, nat_eq, Bool, true, List, length, slice_index}

-- Whether this bit of the control octet, which is the second octet, is set.
abbrev pub control_flag : ℕ → List ℕ → Bool
control_flag bit octets = nat_eq (slice_index octets 1 / 2 ^ bit % 2) 1

-- Whether bit 7 of the control octet says that the body is a network message.
abbrev pub says_message : List ℕ → Bool
says_message octets = control_flag 7 octets

-- Whether bit 5 of the control octet says that there is a destination.
abbrev pub says_destination : List ℕ → Bool
says_destination octets = control_flag 5 octets

-- Whether bit 3 of the control octet says that there is a source.
abbrev pub says_source : List ℕ → Bool
says_source octets = control_flag 3 octets

-- Where the source is, by the control octet and the length of the destination's address. If there is no source, it
-- is the place of what follows.
abbrev pub source_place : List ℕ → ℕ
source_place octets = cond (says_destination octets) (5 + slice_index octets 4) 2

-- Where the hop count is, by the control octet and the lengths of the addresses. If there is no hop count,
-- it is the place of the body.
abbrev pub hops_place : List ℕ → ℕ
hops_place octets = cond (says_source octets) (source_place octets + 3 + slice_index octets (source_place octets + 2)) (source_place octets)

-- Where the body is, by the control octet and the lengths of the addresses.
abbrev pub body_place : List ℕ → ℕ
body_place octets = cond (says_destination octets) (hops_place octets + 1) (hops_place octets)

-- The place is 0, and the first octet, which is the version, is not 1.
abbrev pub IsVersionPlace : List ℕ → ℕ → Type 0
IsVersionPlace octets place = (place ≡ 0) × (0 < length octets) × (slice_index octets 0 ≢ 1)

-- The place is that of the length of a source's address, which is 0. The first octet is 1.
abbrev pub IsAddressPlace : List ℕ → ℕ → Type 0
IsAddressPlace octets place = (slice_index octets 0 ≡ 1) × (says_source octets ≡ true) × (place ≡ source_place octets + 2) × (place < length octets) × (slice_index octets place ≡ 0)

-- The octets have a head to its end: the version is 1, the source has an address, and the octets reach to the body.
pub record HasHead (octets : List ℕ) : Type 0 where
  pub version : slice_index octets 0 ≡ 1
  pub source : says_source octets ≡ true → 1 ≤ slice_index octets (source_place octets + 2)
  pub long : body_place octets ≤ length octets
