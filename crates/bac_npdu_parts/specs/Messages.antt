-- The network messages, as values, and the lists that spell them (clause 6.4).
use Rattle.std.specs.Prelude.{◌≡◌, ℕ, false, Option, Some, None, List, [], ◌∷◌, ◌++◌, length, map}
use Rattle.bac_tag.specs.HeadOctets.{Part, octet, Headed}
use Rattle.bac_npdu_parts.specs.declared.messages.port.Port.{Port}
use Rattle.bac_npdu_parts.specs.declared.message.NetMessage.{NetMessage}
use Rattle.bac_npdu_parts.specs.declared.message.NetMessage.TheVariants as held
use Rattle.bac_npdu_parts.specs.MessageTypes.{OpaqueNetValue, is_typed, IsVendored}
use Rattle.bac_npdu_parts.specs.Addresses.{two_octets, counted}

-- A network message as a value.
pub data MessageValue : Type 0 where
  -- a network or none
  who_is_router : Option ℕ → MessageValue
  -- networks
  i_am_router : List ℕ → MessageValue
  -- network, performance
  i_could_be_router : ℕ → ℕ → MessageValue
  -- reason, network
  reject_message : ℕ → ℕ → MessageValue
  -- networks
  router_busy : List ℕ → MessageValue
  -- networks
  router_available : List ℕ → MessageValue
  -- ports
  init_table : List Port → MessageValue
  -- ports or none
  init_table_ack : Option (List Port) → MessageValue
  -- network, time
  establish : ℕ → ℕ → MessageValue
  -- network
  disconnect : ℕ → MessageValue
  what_is_network_number : MessageValue
  -- network, flag
  network_number_is : ℕ → ℕ → MessageValue
  opaque : OpaqueNetValue → MessageValue

-- The value of a network message that a program holds.
abbrev pub message_value : NetMessage → MessageValue
message_value (held.WhoIsRouter network) = who_is_router network
message_value (held.IAmRouter networks) = i_am_router networks.items
message_value (held.ICouldBeRouter network performance) = i_could_be_router network performance
message_value (held.RejectMessage reason network) = reject_message reason network
message_value (held.RouterBusy networks) = router_busy networks.items
message_value (held.RouterAvailable networks) = router_available networks.items
message_value (held.InitTable ports) = init_table ports
message_value (held.InitTableAck ports) = init_table_ack ports
message_value (held.Establish network time) = establish network time
message_value (held.Disconnect network) = disconnect network
message_value held.WhatIsNetworkNumber = what_is_network_number
message_value (held.NetworkNumberIs network flag) = network_number_is network flag
message_value (held.Opaque message) = opaque message

-- Two octets for each network.
abbrev pub networks_of : List ℕ → List Part
networks_of [] = []
networks_of (network ∷ networks) = two_octets network ++ networks_of networks

-- The two octets of one network, or nothing.
abbrev pub network_or_none : Option ℕ → List Part
network_or_none None = []
network_or_none (Some network) = two_octets network

-- The octets of ports: of each the network, its number, and how many octets of information and they themselves.
abbrev pub ports_of : List Port → List Part
ports_of [] = []
ports_of (port ∷ ports) = two_octets port.network ++ octet port.id ∷ counted port.info ++ ports_of ports

-- The octets of a routing table: how many ports, and each in turn.
abbrev pub table_of : List Port → List Part
table_of ports = octet (length ports) ∷ ports_of ports

-- The octets of a routing table, or nothing.
abbrev pub table_or_none : Option (List Port) → List Part
table_or_none None = []
table_or_none (Some ports) = table_of ports

-- All octets of a message in their order, of which the first is its type (type_of).
abbrev pub octets_of : MessageValue → List Part
octets_of (who_is_router network) = octet 0 ∷ network_or_none network
octets_of (i_am_router networks) = octet 1 ∷ networks_of networks
octets_of (i_could_be_router network performance) = octet 2 ∷ two_octets network ++ octet performance ∷ []
octets_of (reject_message reason network) = octet 3 ∷ octet reason ∷ two_octets network
octets_of (router_busy networks) = octet 4 ∷ networks_of networks
octets_of (router_available networks) = octet 5 ∷ networks_of networks
octets_of (init_table ports) = octet 6 ∷ table_of ports
octets_of (init_table_ack ports) = octet 7 ∷ table_or_none ports
octets_of (establish network time) = octet 8 ∷ two_octets network ++ octet time ∷ []
octets_of (disconnect network) = octet 9 ∷ two_octets network
octets_of what_is_network_number = octet 18 ∷ []
octets_of (network_number_is network flag) = octet 19 ∷ two_octets network ++ octet flag ∷ []
octets_of (opaque message) = octet message.kind ∷ network_or_none message.vendor ++ map octet message.octets

-- The number that the first of these octets is, or 0 if there is none.
abbrev pub first_number : List Part → ℕ
first_number (octet number ∷ ps) = number
first_number _ = 0

-- The type of a message, which is its first octet.
abbrev pub type_of : MessageValue → ℕ
type_of m = first_number (octets_of m)

-- An opaque message has a type without a layout, and a vendor exactly where its type is from 128 on (IsVendored). Of every
-- other message nothing is required.
abbrev pub IsMessage : MessageValue → Type 0
IsMessage (opaque message) = (is_typed message.kind ≡ false) × IsVendored message.kind message.vendor
IsMessage _ = Unit {0}

-- The one list that spells a message for which IsMessage holds: its octets_of, each below 256.
abbrev pub SpellsMessage : MessageValue → List ℕ → Type 0
SpellsMessage message b = IsMessage message × Headed (octets_of message) (λ rest. rest ≡ []) b
