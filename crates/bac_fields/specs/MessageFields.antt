-- The fields of network messages (clause 6.4). The first octet is the type.
use Rattle.std.specs.Prelude.{ℕ, List, [], ◌∷◌, ◌++◌, length}
use Rattle.std.specs.List.{flat_map}
use Rattle.std.specs.Option.{option_map_or}
use Rattle.bac_npdu_parts.specs.declared.messages.port.Port.{Port}
use Rattle.bac_npdu_parts.specs.MessageTypes.{OpaqueNetValue}
use Rattle.bac_npdu_parts.specs.Messages.{MessageValue, who_is_router, i_am_router, i_could_be_router, reject_message, router_busy, router_available, init_table, init_table_ack, establish, disconnect, what_is_network_number, network_number_is, opaque}
use Rattle.bac_field_parts.specs.declared.names.Name.TheVariants as name
use Rattle.bac_field_parts.specs.Fields.{Step, next, optional, word, octet_field, two_octets_field, octets_field, counted_field, counter_field, item_steps}

-- The step of the type of a network message.
abbrev pub type_step : ℕ → Step
type_step kind = next (octet_field name.NetworkMessage kind)

-- The step of a network.
abbrev pub network_step : ℕ → Step
network_step network = next (two_octets_field name.Network network)

-- The step of a network of a list.
abbrev pub listed_network_steps : ℕ → List Step
listed_network_steps network = next (two_octets_field name.ListedNetwork network) ∷ []

-- The steps of a list of networks.
abbrev pub networks_steps : List ℕ → List Step
networks_steps networks = next (word name.Networks) ∷ (flat_map listed_network_steps networks ++ next (word name.ListEnd) ∷ [])

-- The steps of a port: its network, its number, and its octets of information after their number.
abbrev pub port_steps : Port → List Step
port_steps port = network_step port.network ∷ next (octet_field name.PortId port.id) ∷ next (counted_field name.PortInfo port.info) ∷ []

-- The steps of a routing table. The octet with the number of ports is the head of the list.
abbrev pub ports_steps : List Port → List Step
ports_steps ports =
    next (counter_field name.Ports (length ports)) ∷ (flat_map (item_steps port_steps) ports ++ next (word name.ListEnd) ∷ [])

-- The steps of an opaque message: its type, a vendor if it has one, and its octets.
abbrev pub opaque_net_steps : OpaqueNetValue → List Step
opaque_net_steps message =
    type_step message.kind ∷ (optional (two_octets_field name.Vendor) message.vendor ++ next (octets_field name.Data message.octets) ∷ [])

-- The steps of a network message from its type on, with a line for each message.
abbrev pub message_steps : MessageValue → List Step
message_steps (who_is_router network) = type_step 0 ∷ optional (two_octets_field name.Network) network
message_steps (i_am_router networks) = type_step 1 ∷ networks_steps networks
message_steps (i_could_be_router network performance) = type_step 2 ∷ network_step network ∷ next (octet_field name.Performance performance) ∷ []
message_steps (reject_message reason network) = type_step 3 ∷ next (octet_field name.Reason reason) ∷ network_step network ∷ []
message_steps (router_busy networks) = type_step 4 ∷ networks_steps networks
message_steps (router_available networks) = type_step 5 ∷ networks_steps networks
message_steps (init_table ports) = type_step 6 ∷ ports_steps ports
message_steps (init_table_ack ports) = type_step 7 ∷ option_map_or ports_steps ports []
message_steps (establish network time) = type_step 8 ∷ network_step network ∷ next (octet_field name.Time time) ∷ []
message_steps (disconnect network) = type_step 9 ∷ network_step network ∷ []
message_steps what_is_network_number = type_step 18 ∷ []
message_steps (network_number_is network flag) = type_step 19 ∷ network_step network ∷ next (octet_field name.Flag flag) ∷ []
message_steps (opaque message) = opaque_net_steps message
