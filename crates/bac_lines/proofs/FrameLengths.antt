-- How many octets the texts of network messages and of frames have.
use Prim.Native.String.{String}
use Rattle.std.specs.List.{flat_map}
use Rattle.std.specs.Prelude.{Option, None, Some, codes}
use Rattle.std.proofs.Common.{◌≡◌, ℕ, ◌+◌, ◌*◌, ◌/◌, ◌<◌, ◌≤◌, List, [], ◌∷◌, ◌++◌, length, map, ap, arith}
use Rattle.std.proofs.lemmas.List.{length-append, length-map}
use Rattle.bac_tag.specs.Octets.{IsOctets}
use Rattle.bac_tag.specs.Laws.Octets.{octets_back}
use Rattle.bac_tag.specs.HeadOctets.{Part, octet, AreParts}
use Rattle.bac_tag.proofs.HeadOctetLemmas.{parts_are}
use Rattle.bac_npdu_parts.specs.declared.messages.port.Port.{Port}
use Rattle.bac_npdu_parts.specs.Addresses.{SourceValue, DestinationValue, destination_octets, source_octets, hops_octets}
use Rattle.bac_npdu_parts.specs.Messages.{MessageValue, who_is_router, i_am_router, i_could_be_router, reject_message, router_busy, router_available, init_table, init_table_ack, establish, disconnect, what_is_network_number, network_number_is, opaque, networks_of, network_or_none, ports_of, table_or_none, octets_of, SpellsMessage}
use Rattle.bac_npdu_parts.specs.Frames.{FrameValue, BodyValue, apdu, message, addresses_of, SpellsBody, SpellsFrame}
use Rattle.bac_record.specs.Digits.{hexadecimal}
use Rattle.bac_text.specs.Words.{number, truth, field, optional, listed}
use Rattle.bac_text.specs.MessageText.{port_text, message_text}
use Rattle.bac_text.specs.FrameText.{address_text, destination_text, source_text, body_text, text}
use Rattle.bac_lines.proofs.Hexes.{hex_length}
use Rattle.bac_lines.proofs.ValueLengths.{three_digits, five_digits, one_digit, three_parts, four_parts, five_parts}
use Rattle.bac_lines.proofs.ApduLengths.{headed_behind, apdu_short}

-- ---- parts of octets

-- the parts before others
front_parts : (ps qs : List Part) → AreParts (ps ++ qs) → AreParts ps
front_parts [] qs h = tt
front_parts (p ∷ ps) qs h = (h.0, front_parts ps qs h.1)

-- the parts after others
back_parts : (ps qs : List Part) → AreParts (ps ++ qs) → AreParts qs
back_parts [] qs h = h
back_parts (p ∷ ps) qs h = back_parts ps qs h.1

-- a number of two octets
network_digits : (n : ℕ) → n / 256 < 256 → length (number n) ≤ 5
network_digits n small = five_digits n (omega (arith, small))

-- ---- network messages

-- networks that follow another one
other_networks_short : (networks : List ℕ) → AreParts (networks_of networks) → length (flat_map (λ n. codes " " ++ number n) networks) ≤ 15 * length (networks_of networks)
other_networks_short [] h = omega arith
other_networks_short (n ∷ networks) h =
    omega (arith, network_digits n h.0, other_networks_short networks h.1.1, length-append (number n) (flat_map (λ n. codes " " ++ number n) networks))

-- a list of networks
networks_short : (networks : List ℕ) → AreParts (networks_of networks) → length (listed number networks) ≤ 15 * length (networks_of networks) + 2
networks_short [] h = omega arith
networks_short (n ∷ networks) h =
    let others : List ℕ = flat_map (λ n. codes " " ++ number n) networks in
    omega (arith, network_digits n h.0, other_networks_short networks h.1.1, length-append (number n) others, length-append (number n ++ others) (codes ")"))

-- a port
port_short : (port : Port) → port.network / 256 < 256 → port.id < 256 → length (port_text port) ≤ 2 * length port.info + 30
port_short port network id =
    omega (
      arith,
      network_digits port.network network,
      three_digits port.id id,
      hex_length port.info,
      four_parts (field "(network=" (number port.network)) (field " id=" (number port.id)) (field " info=" (hexadecimal port.info)) (codes ")"),
    )

-- the parts of a port, and of those behind it
ports_length : (port : Port) (ports : List Port) → length (ports_of (port ∷ ports)) ≡ 4 + length port.info + length (ports_of ports)
ports_length port ports = omega (arith, length-append (map octet port.info) (ports_of ports), length-map port.info octet)

-- ports that follow another one
other_ports_short : (ports : List Port) → AreParts (ports_of ports) → length (flat_map (λ p. codes " " ++ port_text p) ports) ≤ 15 * length (ports_of ports)
other_ports_short [] h = omega arith
other_ports_short (port ∷ ports) h =
    let back = back_parts (map octet port.info) (ports_of ports) h.1.1.1.1 in
    omega (arith, port_short port h.0 h.1.1.0, other_ports_short ports back, ports_length port ports, length-append (port_text port) (flat_map (λ p. codes " " ++ port_text p) ports))

-- a list of ports
ports_short : (ports : List Port) → AreParts (ports_of ports) → length (listed port_text ports) ≤ 15 * length (ports_of ports) + 2
ports_short [] h = omega arith
ports_short (port ∷ ports) h =
    let back = back_parts (map octet port.info) (ports_of ports) h.1.1.1.1 in
    let others : List ℕ = flat_map (λ p. codes " " ++ port_text p) ports in
    omega (arith, port_short port h.0 h.1.1.0, other_ports_short ports back, ports_length port ports, length-append (port_text port) others, length-append (port_text port ++ others) (codes ")"))

-- a network or none
network_short : (name : String) (n : Option ℕ) → AreParts (network_or_none n) → length (optional name number n) ≤ length (codes name) + 5
network_short name None h = omega arith
network_short name (Some n) h = omega (arith, network_digits n h.0, length-append (codes name) (number n))

-- a list of ports or none
table_short : (ports : Option (List Port)) → AreParts (table_or_none ports) → length (optional " ports=" (listed port_text) ports) ≤ 15 * length (table_or_none ports) + 10
table_short None h = omega arith
table_short (Some ports) h = omega (arith, ports_short ports h.1)

-- a network message, by its parts
message_by : (m : MessageValue) → AreParts (octets_of m) → length (message_text m) ≤ 15 * length (octets_of m) + 60
message_by (who_is_router n) h = omega (arith, network_short " network=" n h.1)
message_by (i_am_router networks) h = omega (arith, networks_short networks h.1)
message_by (i_could_be_router n performance) h = omega (arith, network_digits n h.1.0, three_digits performance h.1.1.1.0, length-append (number n) (field " performance=" (number performance)))
message_by (reject_message reason n) h = omega (arith, three_digits reason h.1.0, network_digits n h.1.1.0, length-append (number reason) (field " network=" (number n)))
message_by (router_busy networks) h = omega (arith, networks_short networks h.1)
message_by (router_available networks) h = omega (arith, networks_short networks h.1)
message_by (init_table ports) h = omega (arith, ports_short ports h.1.1)
message_by (init_table_ack ports) h = omega (arith, table_short ports h.1)
message_by (establish n time) h = omega (arith, network_digits n h.1.0, three_digits time h.1.1.1.0, length-append (number n) (field " time=" (number time)))
message_by (disconnect n) h = omega (arith, network_digits n h.1.0)
message_by what_is_network_number h = omega arith
message_by (network_number_is n flag) h = omega (arith, network_digits n h.1.0, three_digits flag h.1.1.1.0, length-append (number n) (field " flag=" (number flag)))
message_by (opaque m) h =
    let vendor = network_short " vendor=" m.vendor (front_parts (network_or_none m.vendor) (map octet m.octets) h.1) in
    omega (
      arith,
      vendor,
      hex_length m.octets,
      length-append (network_or_none m.vendor) (map octet m.octets),
      length-map m.octets octet,
      three_parts (field "net type=" (hexadecimal (m.kind ∷ []))) (optional " vendor=" number m.vendor) (field " data=" (hexadecimal m.octets)),
    )

-- and by the octets that spell it
message_short : (m : MessageValue) (b : List ℕ) → SpellsMessage m b → length (message_text m) ≤ 15 * length b + 60
message_short m b h =
    let r = headed_behind (octets_of m) (λ rest. rest ≡ []) b h.1 in
    omega (arith, r.sized, message_by m (parts_are (octets_of m) (λ rest. rest ≡ []) b h.1))

-- ---- frames

-- an address
address_short : (address : List ℕ) → length (address_text address) ≤ 2 * length address + 1
address_short [] = omega arith
address_short (first ∷ others) = omega (arith, hex_length (first ∷ others))

-- a destination
destination_short : (d : DestinationValue) → d.network / 256 < 256 → d.hops < 256 → length (destination_text d) ≤ 2 * length d.address + 16
destination_short d network hops =
    omega (arith, network_digits d.network network, three_digits d.hops hops, address_short d.address, three_parts (number d.network) (field "/" (address_text d.address)) (field " hops=" (number d.hops)))

-- a source
source_short : (s : SourceValue) → s.network / 256 < 256 → length (source_text s) ≤ 2 * length s.address + 6
source_short s network = omega (arith, network_digits s.network network, hex_length s.address, length-append (number s.network) (field "/" (hexadecimal s.address)))

-- both, each if it is there
addresses_short : (d : Option DestinationValue) (s : Option SourceValue) → IsOctets (destination_octets d ++ (source_octets s ++ hops_octets d))
    → length (optional " dest=" destination_text d) + length (optional " src=" source_text s) ≤ 15 * length (destination_octets d ++ (source_octets s ++ hops_octets d))
addresses_short None None h = omega arith
addresses_short None (Some s) h = omega (arith, source_short s h.0, length-append s.address [])
addresses_short (Some d) None h =
    let hops = octets_back d.address (d.hops ∷ []) h.1.1.1 in
    omega (arith, destination_short d h.0 hops.0, length-append d.address (d.hops ∷ []))
addresses_short (Some d) (Some s) h =
    let behind = octets_back d.address (source_octets (Some s) ++ d.hops ∷ []) h.1.1.1 in
    let hops = octets_back s.address (d.hops ∷ []) behind.1.1.1 in
    omega (arith, destination_short d h.0 hops.0, source_short s behind.0, length-append d.address (source_octets (Some s) ++ d.hops ∷ []), length-append s.address (d.hops ∷ []))

-- the body of a frame
body_short : (body : BodyValue) (b : List ℕ) → SpellsBody body b → length (body_text body) ≤ 15 * length b + 150
body_short (apdu a) b h = apdu_short a b h
body_short (message m) b h = omega (arith, message_short m b h)

-- the text of a frame has at most two hundred octets more than fifteen for each octet
pub frame_short : (f : FrameValue) (b : List ℕ) → SpellsFrame f b → length (text f) ≤ 15 * length b + 200
frame_short f b h =
    let priority = three_digits f.priority (omega (arith, h.is_control.priority)) in
    let addresses = addresses_short f.destination f.source h.are_octets in
    let body = body_short f.body h.body h.is_body in
    omega (
      arith,
      priority,
      addresses,
      body,
      one_digit f.reply,
      ap length h.octets_are,
      length-append (addresses_of f) h.body,
      five_parts (field "prio=" (number f.priority)) (field " reply=" (truth f.reply)) (optional " dest=" destination_text f.destination) (optional " src=" source_text f.source) (field " " (body_text f.body)),
    )
