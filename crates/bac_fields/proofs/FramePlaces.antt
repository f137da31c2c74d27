-- The octets of APDUs, network messages and frames.
use Rattle.std.specs.Prelude.{Option, None, Some, Bool, true, false, slice_index}
use Rattle.std.specs.List.{flat_map}
use Rattle.std.specs.Option.{option_map_or}
use Rattle.std.proofs.lemmas.List.{length-append}
use Rattle.std.proofs.Math.Seq.{get_or-append_seam}
use Rattle.std.proofs.Common.{◌≡◌, ℕ, ◌+◌, ◌*◌, ◌/◌, ◌%◌, ◌^◌, ◌<◌, ◌≤◌, List, [], ◌∷◌, ◌++◌, map, length, refl, sym, ap, subst, ◌∙◌, append-nil, arith, lit<}
use Rattle.bac_tag.specs.Octets.{IsOctets}
use Rattle.bac_tag.specs.Laws.Octets.{NoGreater-same}
use Rattle.bac_tag.specs.HeadOctets.{typed, limits, octet, bit_of, least_part, least_head, AreParts}
use Rattle.bac_tag.specs.Laws.Spelling.{IsLeast-one}
use Rattle.bac_tag.specs.Spelling.{IsLeast, AppendsLeast}
use Rattle.bac_tag.proofs.HeadOctetLemmas.{parts_are, headed_least, headed_rest}
use Rattle.bac_productions.specs.Laws.Least.{least_nothing}
use Rattle.bac_service.specs.declared.kind.Kind.{Kind}
use Rattle.bac_service.specs.declared.kind.Kind.TheVariants as kind
use Rattle.bac_service.specs.Services.{ServiceValue}
use Rattle.bac_apdu.specs.declared.confirmed_request.RequestHead.{RequestHead}
use Rattle.bac_apdu.specs.declared.segment.SegHead.{SegHead}
use Rattle.bac_apdu.specs.declared.segment.SegHead.TheVariants.{Request, Ack}
use Rattle.bac_apdu.specs.Apdus.{ApduValue, confirmed_request, unconfirmed_request, simple_ack, complex_ack, segment_ack, error, reject, abort, segment, head_of, SpellsServiceOf, SpellsBody as SpellsApduBody, SpellsApdu}
use Rattle.bac_npdu_parts.specs.declared.messages.port.Port.{Port}
use Rattle.bac_npdu_parts.specs.Messages.{MessageValue, who_is_router, i_am_router, router_busy, router_available, init_table, init_table_ack, opaque, networks_of, network_or_none, ports_of, table_of, table_or_none, octets_of, SpellsMessage}
use Rattle.bac_npdu_parts.specs.Addresses.{SourceValue, DestinationValue, destination_octets, source_octets, hops_octets}
use Rattle.bac_npdu_parts.specs.Control.{ControlValue, least_of}
use Rattle.bac_npdu_parts.specs.Frames.{FrameValue, BodyValue, apdu, message, control_of, addresses_of, SpellsBody, SpellsFrame}
use Rattle.bac_npdu_parts.proofs.WrittenLemmas.{least_append, least_octets, least_octets_then}
use Rattle.bac_npdu_parts.proofs.FrameLemmas.{least_before, control_spelled, frame_least}
use Rattle.bac_field_parts.specs.declared.names.Name.{Name}
use Rattle.bac_field_parts.specs.declared.names.Name.TheVariants as name
use Rattle.bac_field_parts.specs.Fields.{FieldValue, Step, next, aside, pass, word, octet_field, two_octets_field, octets_field, counted_field, counter_field, address_field, fields_of, item_steps, optional}
use Rattle.bac_field_parts.specs.PrimitiveFields.{truth}
use Rattle.bac_fields.specs.ServiceFields.{service_steps}
use Rattle.bac_fields.specs.ApduFields.{part_steps, apdu_steps}
use Rattle.bac_fields.specs.MessageFields.{listed_network_steps, port_steps, ports_steps, message_steps}
use Rattle.bac_fields.specs.FrameFields.{source_size, source_steps, addresses_steps, body_steps, control_steps, frame_steps, placed_fields, FrameFits, StepsFit}
use Rattle.bac_field_parts.specs.Names.{number_of}
use Rattle.bac_fields.specs.Places.{HoldsNumber, AreAt}
use Rattle.bac_field_parts.specs.Symbols.{has_contents}
use Rattle.bac_fields.proofs.PlaceLemmas.{Lays, lays_nothing, lays_next, lays_pass, lays_both, lays_same, lays_aside, count, count-append, count-placed, fits_all, joined, Tells, tells_nothing, tells_next, tells_both, tells_same, Placed, are_at}
use Rattle.bac_fields.proofs.ServicePlaces.{Behind, service_led}

-- ---- network messages

networks_tell : (networks : List ℕ) → Tells (flat_map listed_network_steps networks) (least_head (networks_of networks))
networks_tell [] = tells_nothing
networks_tell (n ∷ networks) = tells_both (tells_next (two_octets_field name.ListedNetwork n)) (networks_tell networks)

-- the ends of a list without tags have no octets
listed_tells : (first : Name) {steps : List Step} {octets : List ℕ} → Tells steps octets → Tells (next (word first) ∷ (steps ++ next (word name.ListEnd) ∷ [])) octets
listed_tells first {octets = octets} p = tells_same (append-nil octets) (tells_both (tells_next (word first)) (tells_both p (tells_next (word name.ListEnd))))

network_tells : (of_name : Name) (network : Option ℕ) → Tells (optional (two_octets_field of_name) network) (least_head (network_or_none network))
network_tells of_name None = tells_nothing
network_tells of_name (Some n) = tells_next (two_octets_field of_name n)

port_tells : (port : Port) → Tells (item_steps port_steps port) (port.network / 256 ∷ port.network % 256 ∷ port.id ∷ length port.info ∷ port.info)
port_tells port =
    tells_same (append-nil (port.network / 256 ∷ port.network % 256 ∷ port.id ∷ length port.info ∷ port.info))
    (tells_both (tells_next (word name.Item)) (tells_both
    (tells_both (tells_next (two_octets_field name.Network port.network)) (tells_both (tells_next (octet_field name.PortId port.id)) (tells_next (counted_field name.PortInfo port.info))))
    (tells_next (word name.ItemEnd))))

port_list_tells : (ports : List Port) → Tells (flat_map (item_steps port_steps) ports) (least_head (ports_of ports))
port_list_tells [] = tells_nothing
port_list_tells (port ∷ ports) =
    tells_same (ap (λ l. port.network / 256 ∷ port.network % 256 ∷ port.id ∷ length port.info ∷ l) (sym (least_octets_then port.info (ports_of ports)))) (tells_both (port_tells port) (port_list_tells ports))

ports_tell : (ports : List Port) → Tells (ports_steps ports) (least_head (table_of ports))
ports_tell ports =
    tells_both (tells_next (counter_field name.Ports (length ports)))
    (tells_same (append-nil (least_head (ports_of ports))) (tells_both (port_list_tells ports) (tells_next (word name.ListEnd))))

table_tells : (ports : Option (List Port)) → Tells (option_map_or ports_steps ports []) (least_head (table_or_none ports))
table_tells None = tells_nothing
table_tells (Some ports) = ports_tell ports

type_tells : (type : ℕ) → Tells (next (octet_field name.NetworkMessage type) ∷ []) (type ∷ [])
type_tells type = tells_next (octet_field name.NetworkMessage type)

-- steps that are fields, one after another
abbrev AreFields : List Step → Type 0
AreFields [] = Unit {0}
AreFields (next v ∷ steps) = AreFields steps
AreFields _ = ⊥

fields_tell : (steps : List Step) → AreFields steps → Tells steps (joined (fields_of steps))
fields_tell [] h = tells_nothing
fields_tell (next v ∷ steps) h = tells_both (tells_next v) (fields_tell steps h)
fields_tell (step ∷ steps) h = absurd h

-- the last line is that of each message whose fields are always the same
pub message_tells : (m : MessageValue) → Tells (message_steps m) (least_head (octets_of m))
message_tells (who_is_router n) = tells_both (type_tells 0) (network_tells name.Network n)
message_tells (i_am_router networks) = tells_both (type_tells 1) (listed_tells name.Networks (networks_tell networks))
message_tells (router_busy networks) = tells_both (type_tells 4) (listed_tells name.Networks (networks_tell networks))
message_tells (router_available networks) = tells_both (type_tells 5) (listed_tells name.Networks (networks_tell networks))
message_tells (init_table ports) = tells_both (type_tells 6) (ports_tell ports)
message_tells (init_table_ack ports) = tells_both (type_tells 7) (table_tells ports)
message_tells (opaque m) =
    tells_same (ap (λ l. m.kind ∷ l) (ap (λ l. least_head (network_or_none m.vendor) ++ l) (sym (least_octets m.octets)) ∙ sym (least_append (network_or_none m.vendor) (map octet m.octets))))
    (tells_both (type_tells m.kind) (tells_both (network_tells name.Vendor m.vendor) (tells_next (octets_field name.Data m.octets))))
message_tells m = fields_tell (message_steps m) tt

-- the octets of a network message are its spelling
pub message_spelled : (m : MessageValue) (b : List ℕ) → SpellsMessage m b → IsLeast (SpellsMessage m) (least_head (octets_of m))
message_spelled m b h =
    let all = headed_least (octets_of m) (λ rest. rest ≡ []) [] (parts_are (octets_of m) (λ rest. rest ≡ []) b h.1) least_nothing in
    subst (IsLeast (SpellsMessage m)) (append-nil (least_head (octets_of m))) (record { member = (h.0, all.member); least = λ c k. all.least c k.1 })

-- ---- so few fields

networks_few : (networks : List ℕ) → count (flat_map listed_network_steps networks) ≤ 2 * length (least_head (networks_of networks))
networks_few [] = omega arith
networks_few (n ∷ networks) = omega (arith, networks_few networks)

ports_few : (ports : List Port) → count (flat_map (item_steps port_steps) ports) ≤ 2 * length (least_head (ports_of ports))
ports_few [] = omega arith
ports_few (port ∷ ports) = omega (arith, ports_few ports, ap length (least_octets_then port.info (ports_of ports)), length-append port.info (least_head (ports_of ports)))

list_few : (v : FieldValue) (steps : List Step) (n : ℕ) → count steps ≤ n → count (next v ∷ (steps ++ next (word name.ListEnd) ∷ [])) ≤ n + 2
list_few v steps n few = omega (arith, few, count-append steps (next (word name.ListEnd) ∷ []))

table_few : (ports : Option (List Port)) → count (option_map_or ports_steps ports []) ≤ 2 * length (least_head (table_or_none ports))
table_few None = omega arith
table_few (Some ports) = let few = list_few (counter_field name.Ports (length ports)) (flat_map (item_steps port_steps) ports) _ (ports_few ports) in omega (arith, few)

network_few : (of_name : Name) (n : Option ℕ) → count (optional (two_octets_field of_name) n) ≤ 2 * length (least_head (network_or_none n))
network_few of_name None = omega arith
network_few of_name (Some n) = omega arith

message_few : (m : MessageValue) → count (message_steps m) ≤ 2 * length (least_head (octets_of m)) + 2
message_few (who_is_router n) = omega (arith, network_few name.Network n)
message_few (i_am_router networks) = let few = list_few (word name.Networks) (flat_map listed_network_steps networks) _ (networks_few networks) in omega (arith, few)
message_few (router_busy networks) = let few = list_few (word name.Networks) (flat_map listed_network_steps networks) _ (networks_few networks) in omega (arith, few)
message_few (router_available networks) = let few = list_few (word name.Networks) (flat_map listed_network_steps networks) _ (networks_few networks) in omega (arith, few)
message_few (init_table ports) = let few = list_few (counter_field name.Ports (length ports)) (flat_map (item_steps port_steps) ports) _ (ports_few ports) in omega (arith, few)
message_few (init_table_ack ports) = omega (arith, table_few ports)
message_few (opaque m) =
    let vendor : List Step = optional (two_octets_field name.Vendor) m.vendor in
    omega (arith, network_few name.Vendor m.vendor, count-append vendor (next (octets_field name.Data m.octets) ∷ []), ap length (least_append (network_or_none m.vendor) (map octet m.octets)), length-append (least_head (network_or_none m.vendor)) (least_head (map octet m.octets)))
message_few _ = omega arith

-- ---- APDUs

bit_small : (f : Bool) → bit_of f < 2
bit_small true = lit< tt
bit_small false = lit< tt

truth_bit : (f : Bool) → truth f ≡ bit_of f
truth_bit true = refl
truth_bit false = refl

-- octets that are passed, with numbers in them
three : (x y z : ℕ) → Lays (pass 3 ∷ []) (x ∷ y ∷ z ∷ [])
three x y z = lays_pass 3 (x ∷ y ∷ z ∷ []) refl

service_lays : (k : Kind) (service : ServiceValue) (b : List ℕ) → SpellsServiceOf k service b → Behind service.choice (SpellsServiceOf k service) (service_steps service)
service_lays k service b h = service_led k service.choice service b h

confirmed_lays : (head : RequestHead) (service : ServiceValue) (c : List ℕ) → head.segs < 8 → head.resp < 16 → Lays (service_steps service) (service.choice ∷ c)
    → Lays (apdu_steps (confirmed_request head service)) (least_head (head_of (confirmed_request head service)) ++ c)
confirmed_lays head service c segs resp p =
    let sa = bit_small head.sa in
    let first : ℕ = least_part (typed 0 (Some false) None (Some head.sa) None) in
    let second : ℕ = least_part (limits head.segs head.resp) in
    lays_both
    (lays_aside 0 name.ConfirmedRequest 0 refl (omega arith) (omega (arith, sa))
    (lays_aside 2 name.InvokeId head.invoke refl (omega arith) refl
    (lays_aside 0 name.SegmentedAccepted (truth head.sa) refl (omega arith) (omega (arith, sa, truth_bit head.sa))
    (lays_aside 1 name.MaxSegments head.segs refl (omega arith) (omega (arith, segs, resp))
    (lays_aside 1 name.MaxResponse head.resp refl (omega arith) (omega (arith, segs, resp)) (three first second head.invoke))))))
    p

answer_lays : (of_name : Name) (type : ℕ) (k : Kind) (invoke : ℕ) (service : ServiceValue) (c : List ℕ) → has_contents (number_of of_name) ≡ false → HoldsNumber of_name 0 (16 * type) → Lays (service_steps service) (service.choice ∷ c)
    → Lays (aside 0 of_name 0 ∷ aside 1 name.InvokeId invoke ∷ pass 2 ∷ service_steps service) (16 * type ∷ invoke ∷ service.choice ∷ c)
answer_lays of_name type k invoke service c plain holds p =
    lays_both (lays_aside 0 of_name 0 plain (omega arith) holds (lays_aside 1 name.InvokeId invoke refl (omega arith) refl (lays_pass 2 (16 * type ∷ invoke ∷ []) refl))) p

segment_ack_lays : (invoke : ℕ) (nak srv : Bool) (seq window : ℕ) → Lays (apdu_steps (segment_ack invoke nak srv seq window)) (least_head (head_of (segment_ack invoke nak srv seq window)))
segment_ack_lays invoke nak srv seq window =
    let n = bit_small nak in
    let s = bit_small srv in
    let octets : List ℕ = least_head (head_of (segment_ack invoke nak srv seq window)) in
    lays_aside 0 name.SegmentAck 0 refl (omega arith) (omega (arith, n, s))
    (lays_aside 1 name.InvokeId invoke refl (omega arith) refl
    (lays_aside 0 name.Negative (truth nak) refl (omega arith) (omega (arith, n, s, truth_bit nak))
    (lays_aside 0 name.Server (truth srv) refl (omega arith) (omega (arith, n, s, truth_bit srv))
    (lays_aside 2 name.Sequence seq refl (omega arith) refl (lays_aside 3 name.Window window refl (omega arith) refl (lays_pass 4 octets refl))))))

segment_lays : (head : SegHead) (seq window : ℕ) (more : Bool) (choice : ℕ) (piece : List ℕ) → AreParts (head_of (segment head seq window more choice piece))
    → Lays (part_steps head seq window more choice piece) (least_head (head_of (segment head seq window more choice piece)) ++ piece)
segment_lays (Request head) seq window more choice piece parts =
    let m = bit_small more in
    let sa = bit_small head.sa in
    let segs = parts.1.0.0 in
    let resp = parts.1.0.1 in
    let octets : List ℕ = least_head (head_of (segment (Request head) seq window more choice piece)) in
    lays_both
    (lays_aside 0 name.RequestSegment 0 refl (omega arith) (omega (arith, m, sa))
    (lays_aside 2 name.InvokeId head.invoke refl (omega arith) refl
    (lays_aside 0 name.SegmentedAccepted (truth head.sa) refl (omega arith) (omega (arith, m, sa, truth_bit head.sa))
    (lays_aside 1 name.MaxSegments head.segs refl (omega arith) (omega (arith, segs, resp))
    (lays_aside 1 name.MaxResponse head.resp refl (omega arith) (omega (arith, segs, resp))
    (lays_aside 3 name.Sequence seq refl (omega arith) refl
    (lays_aside 4 name.Window window refl (omega arith) refl
    (lays_aside 0 name.More (truth more) refl (omega arith) (omega (arith, m, sa, truth_bit more)) (lays_aside 5 name.Choice choice refl (omega arith) refl (lays_pass 6 octets refl))))))))))
    (lays_next (octets_field name.Octets piece))
segment_lays (Ack invoke) seq window more choice piece parts =
    let m = bit_small more in
    let octets : List ℕ = least_head (head_of (segment (Ack invoke) seq window more choice piece)) in
    lays_both
    (lays_aside 0 name.AckSegment 0 refl (omega arith) (omega (arith, m))
    (lays_aside 1 name.InvokeId invoke refl (omega arith) refl
    (lays_aside 2 name.Sequence seq refl (omega arith) refl
    (lays_aside 3 name.Window window refl (omega arith) refl
    (lays_aside 0 name.More (truth more) refl (omega arith) (omega (arith, m, truth_bit more)) (lays_aside 4 name.Choice choice refl (omega arith) refl (lays_pass 5 octets refl)))))))
    (lays_next (octets_field name.Octets piece))

-- what a head and the least octets behind it are, of an APDU
record LaysApdu (a : ApduValue) : Type 0 where
  body : List ℕ
  is_least : IsLeast (SpellsApduBody a) body
  lays : Lays (apdu_steps a) (least_head (head_of a) ++ body)
  few : count (apdu_steps a) ≤ 2 * length (least_head (head_of a) ++ body) + 2

segment_few : (head : SegHead) (seq window : ℕ) (more : Bool) (choice : ℕ) (piece : List ℕ)
    → count (part_steps head seq window more choice piece) ≤ 2 * length (least_head (head_of (segment head seq window more choice piece)) ++ piece) + 2
segment_few (Request head) seq window more choice piece = omega arith
segment_few (Ack invoke) seq window more choice piece = omega arith

apdu_lays : (a : ApduValue) (b : List ℕ) → AreParts (head_of a) → SpellsApduBody a b → LaysApdu a
apdu_lays (confirmed_request head service) b parts h =
    let p = service_lays kind.Confirmed service b h in
    record { body = p.octets; is_least = p.is_least; lays = confirmed_lays head service p.octets parts.1.0.0 parts.1.0.1 p.lays; few = omega (arith, p.few) }
apdu_lays (unconfirmed_request service) b parts h =
    let p = service_lays kind.Unconfirmed service b h in
    record { body = p.octets; is_least = p.is_least; lays = lays_both (lays_aside 0 name.UnconfirmedRequest 0 refl (omega arith) refl (lays_pass 1 (16 ∷ []) refl)) p.lays; few = omega (arith, p.few) }
apdu_lays (simple_ack invoke choice) b parts h = record {
  body = [];
  is_least = least_nothing;
  lays = lays_aside 0 name.SimpleAck 0 refl (omega arith) refl (lays_aside 1 name.InvokeId invoke refl (omega arith) refl (lays_aside 2 name.Choice choice refl (omega arith) refl (three 32 invoke choice)));
  few = omega arith;
}
apdu_lays (complex_ack invoke service) b parts h =
    let p = service_lays kind.ComplexAck service b h in
    record { body = p.octets; is_least = p.is_least; lays = answer_lays name.ComplexAck 3 kind.ComplexAck invoke service p.octets refl refl p.lays; few = omega (arith, p.few) }
apdu_lays (segment_ack invoke nak srv seq window) b parts h = record { body = []; is_least = least_nothing; lays = segment_ack_lays invoke nak srv seq window; few = omega arith }
apdu_lays (error invoke service) b parts h =
    let p = service_lays kind.Error service b h in
    record { body = p.octets; is_least = p.is_least; lays = answer_lays name.Error 5 kind.Error invoke service p.octets refl refl p.lays; few = omega (arith, p.few) }
apdu_lays (reject invoke reason) b parts h = record {
  body = [];
  is_least = least_nothing;
  lays = lays_aside 0 name.Reject 0 refl (omega arith) refl (lays_aside 1 name.InvokeId invoke refl (omega arith) refl (lays_aside 2 name.Reason reason refl (omega arith) refl (three 96 invoke reason)));
  few = omega arith;
}
apdu_lays (abort invoke srv reason) b parts h =
    let s = bit_small srv in
    let first : ℕ = least_part (typed 7 None None None (Some srv)) in
    record {
      body = [];
      is_least = least_nothing;
      lays = lays_aside 0 name.Abort 0 refl (omega arith) (omega (arith, s)) (lays_aside 1 name.InvokeId invoke refl (omega arith) refl
          (lays_aside 0 name.Server (truth srv) refl (omega arith) (omega (arith, s, truth_bit srv)) (lays_aside 2 name.Reason reason refl (omega arith) refl (three first invoke reason))));
      few = omega arith;
    }
apdu_lays (segment head seq window more choice piece) b parts h = record {
  body = piece;
  is_least = record { member = (refl, subst IsOctets h.0 h.1); least = λ c s. NoGreater-same piece c (sym s.0) };
  lays = segment_lays head seq window more choice piece parts;
  few = segment_few head seq window more choice piece;
}

apdu_laid : (a : ApduValue) (b : List ℕ) → SpellsApdu a b → Placed (SpellsApdu a) (apdu_steps a)
apdu_laid a b h =
    let parts = parts_are (head_of a) (SpellsApduBody a) b h in
    let body = headed_rest (head_of a) (SpellsApduBody a) b h in
    let p = apdu_lays a body.0 parts body.1 in
    record { octets = least_head (head_of a) ++ p.body; is_least = headed_least (head_of a) (SpellsApduBody a) p.body parts p.is_least; lays = p.lays; few = p.few }

-- ---- frames

source_lays : (s : Option SourceValue) → Lays (source_steps s) (source_octets s)
source_lays None = lays_nothing
source_lays (Some s) = lays_next (address_field name.Source s.network s.address)

-- a source takes so many octets
source_length : (s : Option SourceValue) → length (source_octets s) ≡ source_size s
source_length None = refl
source_length (Some s) = omega arith

addresses_lay : (d : Option DestinationValue) (s : Option SourceValue) → Lays (addresses_steps d s) (destination_octets d ++ (source_octets s ++ hops_octets d))
addresses_lay None s = lays_both (source_lays s) lays_nothing
addresses_lay (Some d) s =
    let behind : List ℕ = source_octets s ++ d.hops ∷ [] in
    let there : slice_index behind (source_size s) ≡ d.hops = ap (slice_index behind) (sym (source_length s)) ∙ get_or-append_seam (source_octets s) d.hops [] 0 in
    lays_both (lays_next (address_field name.Destination d.network d.address))
    (lays_aside (source_size s) name.HopCount d.hops refl (omega (arith, length-append (source_octets s) (d.hops ∷ []), source_length s)) there (lays_both (source_lays s) (lays_pass 1 (d.hops ∷ []) refl)))

control_lays : (c : ControlValue) → c.priority < 4 → Lays (control_steps c.priority c.reply) (1 ∷ least_of c ∷ [])
control_lays c small =
    let is = control_spelled c small in
    lays_both (lays_pass 1 (1 ∷ []) refl)
    (lays_aside 0 name.NetworkPriority c.priority refl (omega arith) is.priority (lays_aside 0 name.ReplyExpected (truth c.reply) refl (omega arith) (is.reply ∙ sym (truth_bit c.reply)) (lays_pass 1 (least_of c ∷ []) refl)))

body_laid : (body : BodyValue) (b : List ℕ) → SpellsBody body b → Placed (SpellsBody body) (body_steps body)
body_laid (apdu a) b h = apdu_laid a b h
body_laid (message m) b h = record { octets = least_head (octets_of m); is_least = message_spelled m b h; lays = (message_tells m).lays; few = message_few m }

-- the body of a frame is spelled
pub body_of : (f : FrameValue) (b : List ℕ) → SpellsFrame f b → (d : List ℕ) × SpellsBody f.body d
body_of f b h = (h.body, h.is_body)

-- an address has at most two fields, and at least four octets
addresses_few : (d : Option DestinationValue) (s : Option SourceValue) → count (addresses_steps d s) ≤ 2 * length (destination_octets d ++ (source_octets s ++ hops_octets d))
addresses_few None None = omega arith
addresses_few None (Some s) = omega arith
addresses_few (Some d) None = omega (arith, length-append d.address (d.hops ∷ []))
addresses_few (Some d) (Some s) = omega (arith, length-append d.address (source_octets (Some s) ++ d.hops ∷ []), length-append s.address (d.hops ∷ []))

-- The octets of a frame, laid out, with at most two fields for each of them.
record LaysFrame (f : FrameValue) : Type 0 where
  octets : List ℕ
  is_least : IsLeast (SpellsFrame f) octets
  lays : Lays (frame_steps f) octets
  few : count (frame_steps f) ≤ 2 * length octets

frame_laid : (f : FrameValue) (b : List ℕ) → SpellsFrame f b → LaysFrame f
frame_laid f b h =
    let small : f.priority < 4 = omega (arith, h.is_control.priority) in
    let body = body_laid f.body h.body h.is_body in
    record {
      octets = least_before f ++ body.octets;
      is_least = frame_least f body.octets h.has_address small h.are_octets body.is_least;
      lays = lays_both (control_lays (control_of f) small) (lays_both (addresses_lay f.destination f.source) body.lays);
      few = omega (arith, body.few, addresses_few f.destination f.source, length-append (addresses_of f) body.octets, count-append (addresses_steps f.destination f.source) (body_steps f.body));
    }

-- each field is at its place in the canonical octets
pub frame_places : (f : FrameValue) (c : List ℕ) → IsLeast (SpellsFrame f) c → AreAt c 0 (frame_steps f)
frame_places f c h =
    let p = frame_laid f c h.member in
    are_at (frame_steps f) c (lays_same (IsLeast-one (SpellsFrame f) p.octets c p.is_least h) p.lays)

-- and there are few of them
frame_two : (f : FrameValue) (c : List ℕ) → IsLeast (SpellsFrame f) c → length (placed_fields f) ≤ 2 * length c
frame_two f c h =
    let p = frame_laid f c h.member in
    omega (arith, p.few, ap length (IsLeast-one (SpellsFrame f) p.octets c p.is_least h), count-placed (frame_steps f) 0)

pub frame_few : (f : FrameValue) (c : List ℕ) → IsLeast (SpellsFrame f) c → length (placed_fields f) ≤ 2 * length c + 2
frame_few f c h = omega (arith, frame_two f c h)

-- ---- frames that fit

-- a frame with so many octets fits
frame_held : (f : FrameValue) (c : List ℕ) → IsLeast (SpellsFrame f) c → 2 * length c < 2 ^ 64 → FrameFits f
frame_held f c h small = record { few_fields = omega (arith, frame_two f c h, small); octets = c; is_least = h; few_octets = omega (arith, small) }

pub frame_fits : (f : FrameValue) (c : List ℕ) → IsLeast (SpellsFrame f) c → 2 * length c + 2 < 2 ^ 64 → FrameFits f
frame_fits f c h small = frame_held f c h (omega (arith, small))

-- so does one whose octets are in a vector
pub appended_fits : (f : FrameValue) (old new : List ℕ) → AppendsLeast (SpellsFrame f) old new → length new < 2 ^ 63 → FrameFits f
appended_fits f old new a small = frame_held f a.more a.is_least (omega (arith, small, ap length a.new_is, length-append old a.more))

-- each number of its steps has room
pub steps_fit : (f : FrameValue) → FrameFits f → StepsFit f
steps_fit f fits =
    let p = frame_laid f fits.octets fits.is_least.member in
    let same = ap length (IsLeast-one (SpellsFrame f) p.octets fits.octets p.is_least fits.is_least) in
    fits_all (frame_steps f) p.octets p.lays (omega (arith, fits.few_fields, count-placed (frame_steps f) 0)) (omega (arith, same, fits.few_octets))
