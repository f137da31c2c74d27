-- Octet strings as contents (clause 20.2.8).
use Rattle.std.specs.Prelude.{ℕ, ◌≤◌, List, length}
use Rattle.bac_tag.specs.Octets.{IsOctets}

-- The list is octets, at most the 1,048,576 that a value may have.
abbrev pub IsOctetString : List ℕ → Type 0
IsOctetString octets = IsOctets octets × (length octets ≤ 1048576)

-- The contents of an octet string are the octets themselves, as they are.
abbrev pub octets_themselves : List ℕ → List ℕ
octets_themselves octets = octets
