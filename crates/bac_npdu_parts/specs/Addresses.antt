-- Networks and addresses on them (clause 6.2.2).
use Rattle.std.specs.Prelude.{ℕ, ◌/◌, ◌%◌, ◌≤◌, Option, Some, None, List, [], ◌∷◌, length, map, refl}
use Rattle.std.specs.Coded.{Coded, code_by, coded×, coded_ℕ, coded_list}
use Rattle.bac_tag.specs.HeadOctets.{Part, octet}

-- A network, and an address on it.
pub record SourceValue : Type 0 where
  pub network : ℕ
  pub address : List ℕ

-- How the logic stores a network and an address on it.
abbrev pub source_code : Coded SourceValue
source_code = code_by (ℕ × List ℕ) (coded× coded_ℕ (coded_list coded_ℕ)) (λ s. (s.network, s.address)) (λ p. record { network = p.0; address = p.1 }) (λ s. refl)

-- A network, an address on it, and a hop count.
pub record DestinationValue : Type 0 where
  pub network : ℕ
  pub address : List ℕ
  pub hops : ℕ

-- A number as two octets, the higher first. Network messages have such numbers.
abbrev pub two_octets : ℕ → List Part
two_octets n = octet (n / 256) ∷ octet (n % 256) ∷ []

-- How many octets there are, in one octet, and after it they themselves. Network messages have such lists.
abbrev pub counted : List ℕ → List Part
counted octets = octet (length octets) ∷ map octet octets

-- The octets of an address: its network, its length, and the address itself.
abbrev pub address_octets : ℕ → List ℕ → List ℕ
address_octets network address = network / 256 ∷ network % 256 ∷ length address ∷ address

-- A destination without its hop count, or None if there is no destination.
abbrev pub address_of : Option DestinationValue → Option SourceValue
address_of None = None
address_of (Some d) = Some (record { network = d.network; address = d.address })

-- The octets of a source: network, length, address. There are none if there is no source.
abbrev pub source_octets : Option SourceValue → List ℕ
source_octets None = []
source_octets (Some s) = address_octets s.network s.address

-- The octets of a destination, without its hop count. There are none if there is no destination.
abbrev pub destination_octets : Option DestinationValue → List ℕ
destination_octets d = source_octets (address_of d)

-- The octet of the hop count, which is after the source. It belongs to the destination, and there is none without one.
abbrev pub hops_octets : Option DestinationValue → List ℕ
hops_octets None = []
hops_octets (Some d) = d.hops ∷ []

-- The address of a source is not empty, if there is a source.
abbrev pub HasAddress : Option SourceValue → Type 0
HasAddress None = Unit {0}
HasAddress (Some s) = 1 ≤ length s.address
