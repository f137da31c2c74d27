-- The text of network messages.
use Rattle.std.specs.Prelude.{ℕ, Option, List, [], ◌∷◌, ◌++◌, codes}
use Rattle.bac_npdu_parts.specs.declared.messages.port.Port.{Port}
use Rattle.bac_npdu_parts.specs.MessageTypes.{OpaqueNetValue}
use Rattle.bac_npdu_parts.specs.Messages.{MessageValue, who_is_router, i_am_router, i_could_be_router, reject_message, router_busy, router_available, init_table, init_table_ack, establish, disconnect, what_is_network_number, network_number_is, opaque}
use Rattle.bac_record.specs.Digits.{hexadecimal}
use Rattle.bac_text.specs.Words.{number, field, optional, listed}

-- The text of a Who-Is-Router-To-Network: the type, and the network if there is one.
abbrev pub who_is_router_text : Option ℕ → List ℕ
who_is_router_text network = codes "net type=00" ++ optional " network=" number network

-- The text of a list of networks, after its name.
abbrev pub networks_text : List ℕ → List ℕ
networks_text networks = field " networks=" (listed number networks)

-- The text of an I-Could-Be-Router-To-Network: the type, the network and the performance.
abbrev pub i_could_be_router_text : ℕ → ℕ → List ℕ
i_could_be_router_text network performance = field "net type=02 network=" (number network) ++ field " performance=" (number performance)

-- The text of a Reject-Message-To-Network: the type, the reason and the network.
abbrev pub reject_message_text : ℕ → ℕ → List ℕ
reject_message_text reason network = field "net type=03 reason=" (number reason) ++ field " network=" (number network)

-- The text of a port, in parentheses: its network, its number and its info.
abbrev pub port_text : Port → List ℕ
port_text port = field "(network=" (number port.network) ++ field " id=" (number port.id) ++ field " info=" (hexadecimal port.info) ++ codes ")"

-- The text of an Initialize-Routing-Table: the type and the list of ports.
abbrev pub init_table_text : List Port → List ℕ
init_table_text ports = field "net type=06 ports=" (listed port_text ports)

-- The text of an Initialize-Routing-Table-Ack: the type, and the list of ports if there is one.
abbrev pub init_table_ack_text : Option (List Port) → List ℕ
init_table_ack_text ports = codes "net type=07" ++ optional " ports=" (listed port_text) ports

-- The text of an Establish-Connection-To-Network: the type, the network and the time.
abbrev pub establish_text : ℕ → ℕ → List ℕ
establish_text network time = field "net type=08 network=" (number network) ++ field " time=" (number time)

-- The text of a Disconnect-Connection-To-Network: the type and the network.
abbrev pub disconnect_text : ℕ → List ℕ
disconnect_text network = field "net type=09 network=" (number network)

-- The text of a Network-Number-Is: the type, the network and the flag.
abbrev pub network_number_text : ℕ → ℕ → List ℕ
network_number_text network flag = field "net type=13 network=" (number network) ++ field " flag=" (number flag)

-- The text of a network message without a layout: the type, the vendor if there is one, and the octets.
abbrev pub opaque_net_text : OpaqueNetValue → List ℕ
opaque_net_text message = field "net type=" (hexadecimal (message.kind ∷ [])) ++ optional " vendor=" number message.vendor ++ field " data=" (hexadecimal message.octets)

-- The text of a network message: the type in two hexadecimal digits, and the fields of the message.
abbrev pub message_text : MessageValue → List ℕ
message_text (who_is_router network) = who_is_router_text network
message_text (i_am_router networks) = field "net type=01" (networks_text networks)
message_text (i_could_be_router network performance) = i_could_be_router_text network performance
message_text (reject_message reason network) = reject_message_text reason network
message_text (router_busy networks) = field "net type=04" (networks_text networks)
message_text (router_available networks) = field "net type=05" (networks_text networks)
message_text (init_table ports) = init_table_text ports
message_text (init_table_ack ports) = init_table_ack_text ports
message_text (establish network time) = establish_text network time
message_text (disconnect network) = disconnect_text network
message_text what_is_network_number = codes "net type=12"
message_text (network_number_is network flag) = network_number_text network flag
message_text (opaque message) = opaque_net_text message
