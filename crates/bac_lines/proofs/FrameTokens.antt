-- The fields of APDUs, network messages and frames are tokens.
use Rattle.std.specs.Prelude.{Option, None, Some}
use Rattle.std.specs.List.{flat_map}
use Rattle.std.specs.Option.{option_map_or}
use Rattle.std.proofs.Common.{ℕ, ◌+◌, ◌/◌, ◌%◌, ◌<◌, ◌^◌, Bool, List, [], ◌∷◌, length, refl, ap, arith}
use Rattle.bac_tag.specs.Octets.{IsOctets}
use Rattle.bac_tag.specs.Spelling.{IsLeast}
use Rattle.bac_tag.proofs.HeadOctetLemmas.{headed_rest}
use Rattle.bac_service.specs.declared.kind.Kind.{Kind}
use Rattle.bac_service.specs.declared.kind.Kind.TheVariants as kind
use Rattle.bac_service.specs.Services.{ServiceValue}
use Rattle.bac_apdu.specs.declared.confirmed_request.RequestHead.{RequestHead}
use Rattle.bac_apdu.specs.declared.segment.SegHead.{SegHead}
use Rattle.bac_apdu.specs.declared.segment.SegHead.TheVariants.{Request, Ack}
use Rattle.bac_apdu.specs.Apdus.{ApduValue, confirmed_request, unconfirmed_request, simple_ack, complex_ack, segment_ack, error, reject, abort, segment, SpellsServiceOf, head_of, SpellsBody as SpellsApduBody}
use Rattle.bac_npdu_parts.specs.declared.messages.port.Port.{Port}
use Rattle.bac_npdu_parts.specs.Messages.{MessageValue, who_is_router, i_am_router, i_could_be_router, reject_message, router_busy, router_available, init_table, init_table_ack, establish, disconnect, what_is_network_number, network_number_is, opaque}
use Rattle.bac_npdu_parts.specs.Addresses.{SourceValue, DestinationValue}
use Rattle.bac_npdu_parts.specs.Frames.{FrameValue, BodyValue, apdu, message, SpellsBody, SpellsFrame}
use Rattle.bac_field_parts.specs.declared.names.Name.TheVariants as name
use Rattle.bac_field_parts.specs.Fields.{FieldValue, next, aside, word, octet_field, two_octets_field, octets_field, counted_field, counter_field, address_field, item_steps, optional}
use Rattle.bac_field_parts.specs.PrimitiveFields.{truth}
use Rattle.bac_fields.specs.ServiceFields.{service_steps}
use Rattle.bac_fields.specs.ApduFields.{request_head_steps, segment_steps, part_steps, apdu_steps}
use Rattle.bac_fields.specs.MessageFields.{networks_steps, listed_network_steps, port_steps, ports_steps, message_steps}
use Rattle.bac_fields.specs.FrameFields.{source_size, destination_steps, source_steps, hops_steps, body_steps, control_steps, frame_steps, fields}
use Rattle.bac_fields.proofs.FramePlaces.{body_of, frame_places}
use Rattle.bac_lines.specs.declared.closing.Closing.{Closing}
use Rattle.bac_lines.specs.Scanning.{AreTokens}
use Rattle.bac_lines.proofs.TokenLemmas.{Lexes, have_octets, both, nothing, edge, one, held, passed, closed, all_tokens, truth_below, octet_below, in_item, in_list, item, enclosed}
use Rattle.bac_lines.proofs.ServiceTokens.{service_lexes}

-- ---- APDUs

service_of : (k : Kind) (service : ServiceValue) (b : List ℕ) → SpellsServiceOf k service b → Lexes [] [] (service_steps service)
service_of k service b h = service_lexes [] k service.choice service b h

invoke_held : (at invoke : ℕ) → Lexes [] [] (aside at name.InvokeId invoke ∷ [])
invoke_held at invoke = held [] at name.InvokeId invoke (λ o small is. (octet_below invoke o small is, (refl, refl)))

reason_held : (at reason : ℕ) → Lexes [] [] (aside at name.Reason reason ∷ [])
reason_held at reason = held [] at name.Reason reason (λ o small is. (octet_below reason o small is, (tt, refl)))

choice_held : (at choice : ℕ) → Lexes [] [] (aside at name.Choice choice ∷ [])
choice_held at choice = held [] at name.Choice choice (λ o small is. (octet_below choice o small is, (tt, refl)))

sequence_held : (at seq : ℕ) → Lexes [] [] (aside at name.Sequence seq ∷ [])
sequence_held at seq = held [] at name.Sequence seq (λ o small is. (octet_below seq o small is, (tt, refl)))

window_held : (at window : ℕ) → Lexes [] [] (aside at name.Window window ∷ [])
window_held at window = held [] at name.Window window (λ o small is. (octet_below window o small is, (tt, refl)))

server_held : (srv : Bool) → Lexes [] [] (aside 0 name.Server (truth srv) ∷ [])
server_held srv = held [] 0 name.Server (truth srv) (λ o small is. (truth_below srv, (tt, refl)))

head_lexes : (head : RequestHead) → Lexes [] [] (request_head_steps head)
head_lexes head =
    both (invoke_held 2 head.invoke)
    (both (held [] 0 name.SegmentedAccepted (truth head.sa) (λ o small is. (truth_below head.sa, (tt, refl))))
    (both (held [] 1 name.MaxSegments head.segs (λ o small is. (omega (arith, small, is), (tt, refl)))) (held [] 1 name.MaxResponse head.resp (λ o small is. (omega (arith, small, is), (tt, refl))))))

segment_rest : (at seq window : ℕ) (more : Bool) (choice : ℕ) (piece : List ℕ) → Lexes [] [] (segment_steps at seq window more choice piece)
segment_rest at seq window more choice piece =
    both (sequence_held at seq)
    (both (window_held (at + 1) window)
    (both (held [] 0 name.More (truth more) (λ o small is. (truth_below more, (tt, refl))))
    (both (choice_held (at + 2) choice) (passed (at + 3) (one [] (octets_field name.Octets piece) (λ o. (refl, (o, refl))))))))

segment_lexes : (head : SegHead) (seq window : ℕ) (more : Bool) (choice : ℕ) (piece : List ℕ) → Lexes [] [] (part_steps head seq window more choice piece)
segment_lexes (Request head) seq window more choice piece = both (held [] 0 name.RequestSegment 0 (λ o small is. (refl, refl))) (both (head_lexes head) (segment_rest 3 seq window more choice piece))
segment_lexes (Ack invoke) seq window more choice piece = both (held [] 0 name.AckSegment 0 (λ o small is. (refl, refl))) (both (invoke_held 1 invoke) (segment_rest 2 seq window more choice piece))

apdu_lexes : (a : ApduValue) (b : List ℕ) → SpellsApduBody a b → Lexes [] [] (apdu_steps a)
apdu_lexes (confirmed_request head service) b h =
    both (held [] 0 name.ConfirmedRequest 0 (λ o small is. (refl, refl))) (both (head_lexes head) (passed 3 (service_of kind.Confirmed service b h)))
apdu_lexes (unconfirmed_request service) b h = both (held [] 0 name.UnconfirmedRequest 0 (λ o small is. (refl, refl))) (passed 1 (service_of kind.Unconfirmed service b h))
apdu_lexes (simple_ack invoke choice) b h = both (held [] 0 name.SimpleAck 0 (λ o small is. (refl, refl))) (both (invoke_held 1 invoke) (closed 3 (choice_held 2 choice)))
apdu_lexes (complex_ack invoke service) b h = both (held [] 0 name.ComplexAck 0 (λ o small is. (refl, refl))) (both (invoke_held 1 invoke) (passed 2 (service_of kind.ComplexAck service b h)))
apdu_lexes (segment_ack invoke nak srv seq window) b h =
    both (held [] 0 name.SegmentAck 0 (λ o small is. (refl, refl)))
    (both (invoke_held 1 invoke)
    (both (held [] 0 name.Negative (truth nak) (λ o small is. (truth_below nak, (tt, refl))))
    (both (server_held srv) (both (sequence_held 2 seq) (closed 4 (window_held 3 window))))))
apdu_lexes (error invoke service) b h = both (held [] 0 name.Error 0 (λ o small is. (refl, refl))) (both (invoke_held 1 invoke) (passed 2 (service_of kind.Error service b h)))
apdu_lexes (reject invoke reason) b h = both (held [] 0 name.Reject 0 (λ o small is. (refl, refl))) (both (invoke_held 1 invoke) (closed 3 (reason_held 2 reason)))
apdu_lexes (abort invoke srv reason) b h =
    both (held [] 0 name.Abort 0 (λ o small is. (refl, refl))) (both (invoke_held 1 invoke) (both (server_held srv) (closed 3 (reason_held 2 reason))))
apdu_lexes (segment head seq window more choice piece) b h = segment_lexes head seq window more choice piece

-- ---- network messages

-- a number that two octets are
network_small : (network : ℕ) → IsOctets (network / 256 ∷ network % 256 ∷ []) → network < 65536
network_small network o = omega (arith, o.0)

pair_below : (number : ℕ) → IsOctets (number / 256 ∷ number % 256 ∷ []) → number < 2 ^ 64
pair_below number o = omega (arith, o.0)

single_below : (number : ℕ) → IsOctets (number ∷ []) → number < 2 ^ 64
single_below number o = omega (arith, o.0)

typed : (type : ℕ) → Lexes [] [] (next (octet_field name.NetworkMessage type) ∷ [])
typed type = one [] (octet_field name.NetworkMessage type) (λ o. (o.0, refl))

network : (ends : List Closing) (value : ℕ) → Lexes ends ends (next (two_octets_field name.Network value) ∷ [])
network ends value = one ends (two_octets_field name.Network value) (λ o. (pair_below value o, (tt, refl)))

optional_pair : (field : ℕ → FieldValue) (part : Option ℕ) → ((n : ℕ) → Lexes [] [] (next (field n) ∷ [])) → Lexes [] [] (optional field part)
optional_pair field None each = nothing []
optional_pair field (Some n) each = each n

listed_networks : (ends : List Closing) (networks : List ℕ) → Lexes ends ends (flat_map listed_network_steps networks)
listed_networks ends [] = nothing ends
listed_networks ends (n ∷ networks) = both (one ends (two_octets_field name.ListedNetwork n) (λ o. (network_small n o, refl))) (listed_networks ends networks)

networks_lex : (networks : List ℕ) → Lexes [] [] (networks_steps networks)
networks_lex networks =
    enclosed (edge [] (in_list []) (word name.Networks) (λ o. (refl, refl))) (listed_networks (in_list []) networks) (edge (in_list []) [] (word name.ListEnd) (λ o. refl))

-- what a port has is in an item
port_lexes : (port : Port) → Lexes (in_item (in_list [])) (in_item (in_list [])) (port_steps port)
port_lexes port =
    let inside : List Closing = in_item (in_list []) in
    both (network inside port.network)
    (both (one inside (octet_field name.PortId port.id) (λ o. (single_below port.id o, ((λ e. omega (arith, ap length e)), refl))))
    (one inside (counted_field name.PortInfo port.info) (λ o. (refl, (o.1, refl)))))

listed_ports : (ports : List Port) → Lexes (in_list []) (in_list []) (flat_map (item_steps port_steps) ports)
listed_ports [] = nothing (in_list [])
listed_ports (port ∷ ports) = both (item (in_list []) port_steps port (port_lexes port)) (listed_ports ports)

ports_lex : (ports : List Port) → Lexes [] [] (ports_steps ports)
ports_lex ports = enclosed (edge [] (in_list []) (counter_field name.Ports (length ports)) (λ o. (refl, refl))) (listed_ports ports) (edge (in_list []) [] (word name.ListEnd) (λ o. refl))

table_lexes : (ports : Option (List Port)) → Lexes [] [] (option_map_or ports_steps ports [])
table_lexes None = nothing []
table_lexes (Some ports) = ports_lex ports

message_lexes : (m : MessageValue) → Lexes [] [] (message_steps m)
message_lexes (who_is_router value) = both (typed 0) (optional_pair (two_octets_field name.Network) value (network []))
message_lexes (i_am_router networks) = both (typed 1) (networks_lex networks)
message_lexes (i_could_be_router value performance) =
    both (typed 2) (both (network [] value) (one [] (octet_field name.Performance performance) (λ o. (single_below performance o, (tt, refl)))))
message_lexes (reject_message reason value) = both (typed 3) (both (one [] (octet_field name.Reason reason) (λ o. (single_below reason o, (tt, refl)))) (network [] value))
message_lexes (router_busy networks) = both (typed 4) (networks_lex networks)
message_lexes (router_available networks) = both (typed 5) (networks_lex networks)
message_lexes (init_table ports) = both (typed 6) (ports_lex ports)
message_lexes (init_table_ack ports) = both (typed 7) (table_lexes ports)
message_lexes (establish value time) = both (typed 8) (both (network [] value) (one [] (octet_field name.Time time) (λ o. (single_below time o, (tt, refl)))))
message_lexes (disconnect value) = both (typed 9) (network [] value)
message_lexes what_is_network_number = typed 18
message_lexes (network_number_is value flag) = both (typed 19) (both (network [] value) (one [] (octet_field name.Flag flag) (λ o. (single_below flag o, (tt, refl)))))
message_lexes (opaque m) =
    both (typed m.kind)
    (both (optional_pair (two_octets_field name.Vendor) m.vendor (λ n. one [] (two_octets_field name.Vendor n) (λ o. (pair_below n o, (tt, refl)))))
    (one [] (octets_field name.Data m.octets) (λ o. (refl, (o, refl)))))

-- ---- frames

destination_lexes : (size : ℕ) (destination : Option DestinationValue) → Lexes [] [] (destination_steps size destination)
destination_lexes size None = nothing []
destination_lexes size (Some d) =
    both (one [] (address_field name.Destination d.network d.address) (λ o. (omega (arith, o.0), (o.1.1.1, refl))))
    (held [] size name.HopCount d.hops (λ o small is. (octet_below d.hops o small is, (tt, refl))))

source_lexes : (source : Option SourceValue) → Lexes [] [] (source_steps source)
source_lexes None = nothing []
source_lexes (Some s) = one [] (address_field name.Source s.network s.address) (λ o. (omega (arith, o.0), (o.1.1.1, refl)))

hops_lex : (destination : Option DestinationValue) → Lexes [] [] (hops_steps destination)
hops_lex None = nothing []
hops_lex (Some d) = passed 1 (nothing [])

control_lexes : (priority : ℕ) (reply : Bool) → Lexes [] [] (control_steps priority reply)
control_lexes priority reply =
    passed 1
    (both (held [] 0 name.NetworkPriority priority (λ o small is. (omega (arith, small, is), (tt, refl))))
    (closed 1 (held [] 0 name.ReplyExpected (truth reply) (λ o small is. (truth_below reply, (tt, refl))))))

body_lexes : (body : BodyValue) (b : List ℕ) → SpellsBody body b → Lexes [] [] (body_steps body)
body_lexes (apdu a) b h = let s = headed_rest (head_of a) (SpellsApduBody a) b h in apdu_lexes a s.0 s.1
body_lexes (message m) b h = message_lexes m

frame_lexes : (f : FrameValue) (b : List ℕ) → SpellsFrame f b → Lexes [] [] (frame_steps f)
frame_lexes f b h =
    let body = body_of f b h in
    both (control_lexes f.priority f.reply)
    (both (both (destination_lexes (source_size f.source) f.destination) (both (source_lexes f.source) (hops_lex f.destination))) (body_lexes f.body body.0 body.1))

-- the fields of a frame are tokens
pub frame_tokens : (f : FrameValue) (c : List ℕ) → IsLeast (SpellsFrame f) c → IsOctets c → AreTokens [] (fields f)
frame_tokens f c least octets = all_tokens (frame_steps f) (frame_lexes f c least.member) (have_octets c octets (frame_steps f) 0 (frame_places f c least))
