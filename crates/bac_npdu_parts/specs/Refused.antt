-- How networks and routing tables are found, and how they are refused.
use Rattle.std.specs.Prelude.{◌≡◌, ◌⊎◌, ℕ, ◌+◌, ◌%◌, ◌<◌, ◌≤◌, List, [], length, drop, slice_index}
use Rattle.bac_tag.specs.declared.refusals.Refusal.{Refusal}
use Rattle.bac_tag.specs.declared.refusals.Why.TheVariants.{Short, Trailing, OutOfMemory}
use Rattle.bac_tag.specs.HeadOctets.{Headed}
use Rattle.bac_npdu_parts.specs.declared.messages.port.Port.{Port}
use Rattle.bac_npdu_parts.specs.declared.messages.tables.FoundPort.{FoundPort}
use Rattle.bac_npdu_parts.specs.Messages.{ports_of, table_of}

-- The refusal is Short at the end of the octets, which end early.
abbrev pub IsEarlyEnd : List ℕ → Refusal → Type 0
IsEarlyEnd octets refusal = refusal ≡ record { place = length octets; why = Short }

-- The refusal is OutOfMemory at place 0: memory was refused.
abbrev pub IsWithoutMemory : Refusal → Type 0
IsWithoutMemory refusal = refusal ≡ record { place = 0; why = OutOfMemory }

-- After the type there are networks and one octet more, and the refusal is an early end.
abbrev pub IsHalfNetwork : List ℕ → Refusal → Type 0
IsHalfNetwork octets refusal = (length octets % 2 ≡ 0) × IsEarlyEnd octets refusal

-- How a list of networks is refused where they are kept: as an early end (IsHalfNetwork) or without memory.
abbrev pub IsNetworksRefusal : List ℕ → Refusal → Type 0
IsNetworksRefusal octets refusal = IsHalfNetwork octets refusal ⊎ IsWithoutMemory refusal

-- The octets end within a port.
abbrev pub EndsInPort : List ℕ → Type 0
EndsInPort b = 4 ≤ length b → length b < 4 + slice_index b 3

-- From a place on the octets end within a port, and the refusal is an early end.
abbrev pub IsHalfPort : List ℕ → ℕ → Refusal → Type 0
IsHalfPort octets place refusal = EndsInPort (drop place octets) × IsEarlyEnd octets refusal

-- How a port is refused where it is kept: as an early end (IsHalfPort) or without memory.
abbrev pub IsPortRefusal : List ℕ → ℕ → Refusal → Type 0
IsPortRefusal octets place refusal = IsHalfPort octets place refusal ⊎ IsWithoutMemory refusal

-- The port that was found in octets.
abbrev pub port_found : FoundPort → Port
port_found port = record { network = port.network; id = port.id; info = port.info.now }

-- After the type there are so many ports, and nothing else.
pub record IsTable (octets : List ℕ) (count : ℕ) : Type 0 where
  pub ports : List Port
  pub number : length ports ≡ count
  pub spelled : Headed (table_of ports) (λ rest. rest ≡ []) (drop 1 octets)

-- The octets of a table lack ports. There is no number of ports, or there are fewer ports than that, and
-- after them one that ends early.
abbrev pub LacksPorts : List ℕ → Type 0
LacksPorts octets = (length octets ≡ 1) ⊎ ((ports : List Port) × (length ports < slice_index octets 1) × Headed (ports_of ports) EndsInPort (drop 2 octets))

-- The octets of a table continue after its ports. There are as many ports as the table says, and after
-- them octets from a place on.
pub record GoesOn (octets : List ℕ) (place : ℕ) : Type 0 where
  pub ports : List Port
  pub number : length ports ≡ slice_index octets 1
  pub spelled : Headed (ports_of ports) (λ rest. rest ≡ drop place octets) (drop 2 octets)
  pub counted : 1 < length octets
  pub within : place < length octets

-- The octets after the type are no table, and the refusal is an early end or Trailing. It is an early end if ports are missing.
-- It is Trailing if octets are after the last port.
abbrev pub IsNoTable : List ℕ → Refusal → Type 0
IsNoTable octets refusal = (LacksPorts octets × IsEarlyEnd octets refusal) ⊎ (GoesOn octets refusal.place × (refusal.why ≡ Trailing))

-- How a table is refused where its ports are kept: as no table (IsNoTable) or without memory.
abbrev pub IsTableRefusal : List ℕ → Refusal → Type 0
IsTableRefusal octets refusal = IsNoTable octets refusal ⊎ IsWithoutMemory refusal
