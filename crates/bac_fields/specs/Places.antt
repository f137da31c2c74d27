-- Where the octets of fields are (clauses 6.2.2 and 20.1).
use Rattle.std.specs.Prelude.{◌≡◌, ℕ, ◌+◌, ◌/◌, ◌%◌, ◌<◌, false, List, [], ◌∷◌, ◌++◌, length, take, drop, slice_index}
use Rattle.bac_field_parts.specs.declared.names.Name.{Name}
use Rattle.bac_field_parts.specs.declared.names.Name.TheVariants as name
use Rattle.bac_field_parts.specs.Names.{number_of}
use Rattle.bac_field_parts.specs.Fields.{Step, next, aside, pass, size_of}
use Rattle.bac_field_parts.specs.Symbols.{has_contents}

-- An octet of a head holds the number of a field of this name, in some of its bits or as a whole. The head is that of a frame
-- or of an APDU. Where the field says which APDU it is, the highest four bits of the octet are the type of that APDU. That
-- octet is the first one of the APDU.
abbrev pub HoldsNumber : Name → ℕ → ℕ → Type 0
HoldsNumber name.NetworkPriority number octet = octet % 4 ≡ number
HoldsNumber name.ReplyExpected number octet = octet / 4 % 2 ≡ number
HoldsNumber name.ConfirmedRequest number octet = octet / 16 ≡ 0
HoldsNumber name.UnconfirmedRequest number octet = octet / 16 ≡ 1
HoldsNumber name.SimpleAck number octet = octet / 16 ≡ 2
HoldsNumber name.ComplexAck number octet = octet / 16 ≡ 3
HoldsNumber name.SegmentAck number octet = octet / 16 ≡ 4
HoldsNumber name.Error number octet = octet / 16 ≡ 5
HoldsNumber name.Reject number octet = octet / 16 ≡ 6
HoldsNumber name.Abort number octet = octet / 16 ≡ 7
HoldsNumber name.RequestSegment number octet = octet / 16 ≡ 0
HoldsNumber name.AckSegment number octet = octet / 16 ≡ 3
HoldsNumber name.SegmentedAccepted number octet = octet / 2 % 2 ≡ number
HoldsNumber name.MaxSegments number octet = octet / 16 % 8 ≡ number
HoldsNumber name.MaxResponse number octet = octet % 16 ≡ number
HoldsNumber name.More number octet = octet / 4 % 2 ≡ number
HoldsNumber name.Negative number octet = octet / 2 % 2 ≡ number
HoldsNumber name.Server number octet = octet % 2 ≡ number
HoldsNumber _ number octet = octet ≡ number

-- In the octets, from this place on, each field is where the steps put it. A field with octets of its own has its head and its
-- contents there. A number that an octet further on holds is in that octet, and its field has no contents by its name
-- (has_contents). After the last step there are no octets left.
abbrev pub AreAt : List ℕ → ℕ → List Step → Type 0
AreAt octets place [] = place ≡ length octets
AreAt octets place (next v ∷ steps) = (take (size_of v) (drop place octets) ≡ v.head ++ v.contents) × AreAt octets (place + size_of v) steps
AreAt octets place (aside n name number ∷ steps) = (has_contents (number_of name) ≡ false) × (place + n < length octets) × HoldsNumber name number (slice_index octets (place + n)) × AreAt octets place steps
AreAt octets place (pass n ∷ steps) = AreAt octets (place + n) steps
