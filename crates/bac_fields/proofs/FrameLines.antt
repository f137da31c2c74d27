-- What is printed of APDUs, network messages and frames.
use Rattle.std.specs.Prelude.{codes, Option, None, Some}
use Rattle.std.specs.Option.{option_map_or}
use Rattle.std.proofs.Common.{◌≡◌, ℕ, ◌+◌, ◌≤◌, Bool, true, false, not, ◌&&◌, List, [], ◌∷◌, ◌++◌, length, refl, sym, ap, ◌∙◌, append_assoc, append-nil, arith}
use Rattle.bac_tag.proofs.HeadOctetLemmas.{headed_rest}
use Rattle.bac_record.specs.Digits.{hexadecimal}
use Rattle.bac_service.specs.declared.kind.Kind.{Kind}
use Rattle.bac_service.specs.declared.kind.Kind.TheVariants as kind
use Rattle.bac_service.specs.Services.{ServiceValue}
use Rattle.bac_apdu.specs.declared.confirmed_request.RequestHead.{RequestHead}
use Rattle.bac_apdu.specs.declared.segment.SegHead.{SegHead}
use Rattle.bac_apdu.specs.declared.segment.SegHead.TheVariants.{Request, Ack}
use Rattle.bac_apdu.specs.Apdus.{ApduValue, confirmed_request, unconfirmed_request, simple_ack, complex_ack, segment_ack, error, reject, abort, segment, SpellsServiceOf, head_of, SpellsBody as SpellsApduBody}
use Rattle.bac_npdu_parts.specs.declared.messages.port.Port.{Port}
use Rattle.bac_npdu_parts.specs.Messages.{MessageValue, who_is_router, i_am_router, router_busy, router_available, init_table, init_table_ack, opaque}
use Rattle.bac_npdu_parts.specs.Addresses.{SourceValue, DestinationValue, HasAddress}
use Rattle.bac_npdu_parts.specs.Frames.{FrameValue, BodyValue, apdu, message, SpellsBody, SpellsFrame}
use Rattle.bac_text.specs.Words.{number, truth as truth_text, listed as listed_text, optional as optional_text}
use Rattle.bac_text.specs.WalkText.{blank}
use Rattle.bac_text.specs.ServiceText.{service_text}
use Rattle.bac_text.specs.RequestText.{request_head_text}
use Rattle.bac_text.specs.SegmentText.{segment_text}
use Rattle.bac_text.specs.ApduText.{apdu_text}
use Rattle.bac_text.specs.MessageText.{networks_text, port_text, message_text}
use Rattle.bac_text.specs.FrameText.{address_text, destination_text, source_text, body_text, text}
use Rattle.bac_field_parts.specs.declared.names.Name.{Name}
use Rattle.bac_field_parts.specs.declared.names.Name.TheVariants as name
use Rattle.bac_field_parts.specs.Fields.{Step, next, aside, pass, word, octet_field, two_octets_field, octets_field, counted_field, counter_field, held_field, address_field, item_steps}
use Rattle.bac_field_parts.specs.PrimitiveFields.{truth}
use Rattle.bac_fields.specs.ServiceFields.{service_steps}
use Rattle.bac_fields.specs.ApduFields.{request_head_steps, segment_steps, part_steps, apdu_steps}
use Rattle.bac_fields.specs.MessageFields.{networks_steps, listed_network_steps, port_steps, ports_steps, message_steps}
use Rattle.bac_fields.specs.FrameFields.{source_size, destination_steps, source_steps, hops_steps, body_steps, control_steps, frame_steps, fields}
use Rattle.bac_field_parts.specs.Names.{word_of}
use Rattle.bac_fields.specs.Line.{as_word, as_number, form_of, shown, begins, lead, printed}
use Rattle.bac_fields.proofs.EventRanges.{Each}
use Rattle.bac_fields.proofs.LineLemmas.{Prints, line_of, same_line, both, opened, one, held, passed, nothing, closed, truth_in, optional_part, item, list_rest}
use Rattle.bac_fields.proofs.ServiceLines.{service_line}
use Rattle.bac_fields.proofs.FramePlaces.{body_of}

-- ---- APDUs

number_held : (at : ℕ) (name : Name) (value : ℕ) → form_of name ≡ as_number → Prints false (aside at name value ∷ []) (codes " " ++ (word_of name ++ (codes "=" ++ number value)))
number_held at name value e = same_line (ap (λ f. lead false f ++ shown f (held_field name value)) e) (held false at name value (ap begins e))

truth_held : (at : ℕ) (name : Name) (value : Bool) → form_of name ≡ as_number → Prints false (aside at name (truth value) ∷ []) (codes " " ++ (word_of name ++ (codes "=" ++ truth_text value)))
truth_held at name value e = truth_in (held_field name (truth value)) value e refl (held false at name (truth value) (ap begins e))

service_of : (k : Kind) (service : ServiceValue) (b : List ℕ) → SpellsServiceOf k service b → Prints false (service_steps service) (codes " " ++ service_text service)
service_of k service b h = service_line k service.choice service b h

head_line : (head : RequestHead) → Prints false (request_head_steps head) (codes " id=" ++ request_head_text head)
head_line head =
    both (both (both (number_held 2 name.InvokeId head.invoke refl) (truth_held 0 name.SegmentedAccepted head.sa refl)) (number_held 1 name.MaxSegments head.segs refl)) (number_held 1 name.MaxResponse head.resp refl)

-- a word, and what comes after it
confirmed_line : (head : RequestHead) (service : ServiceValue) (b : List ℕ) → SpellsServiceOf kind.Confirmed service b → Prints false (apdu_steps (confirmed_request head service)) (codes " " ++ apdu_text (confirmed_request head service))
confirmed_line head service b h = both (both (held false 0 name.ConfirmedRequest 0 refl) (head_line head)) (passed 3 (service_of kind.Confirmed service b h))

answer_line : (of_name : Name) (kind : Kind) (invoke : ℕ) (service : ServiceValue) (b : List ℕ) → form_of of_name ≡ as_word → SpellsServiceOf kind service b
    → Prints false (aside 0 of_name 0 ∷ aside 1 name.InvokeId invoke ∷ pass 2 ∷ service_steps service) (((codes " " ++ word_of of_name) ++ (codes " id=" ++ number invoke)) ++ (codes " " ++ service_text service))
answer_line of_name kind invoke service b e h =
    both (both (same_line (ap (λ f. lead false f ++ shown f (held_field of_name 0)) e) (held false 0 of_name 0 (ap begins e))) (number_held 1 name.InvokeId invoke refl)) (passed 2 (service_of kind service b h))

segment_ack_line : (invoke : ℕ) (nak srv : Bool) (seq window : ℕ) → Prints false (apdu_steps (segment_ack invoke nak srv seq window)) (codes " " ++ apdu_text (segment_ack invoke nak srv seq window))
segment_ack_line invoke nak srv seq window =
    closed 4 (both (both (both (both (both (held false 0 name.SegmentAck 0 refl) (number_held 1 name.InvokeId invoke refl)) (truth_held 0 name.Negative nak refl)) (truth_held 0 name.Server srv refl))
    (number_held 2 name.Sequence seq refl)) (number_held 3 name.Window window refl))

regroup : (h a b c d e : List ℕ) → h ++ ((((a ++ b) ++ c) ++ d) ++ e) ≡ ((((h ++ a) ++ b) ++ c) ++ d) ++ e
regroup h a b c d e =
    sym (append_assoc h (((a ++ b) ++ c) ++ d) e)
    ∙ ap (λ l. l ++ e) (sym (append_assoc h ((a ++ b) ++ c) d) ∙ ap (λ l. l ++ d) (sym (append_assoc h (a ++ b) c) ∙ ap (λ l. l ++ c) (sym (append_assoc h a b))))

segment_rest : (at seq window : ℕ) (more : Bool) (choice : ℕ) (piece : List ℕ) → Prints false (segment_steps at seq window more choice piece)
    (((((codes " seq=" ++ number seq) ++ (codes " win=" ++ number window)) ++ (codes " more=" ++ truth_text more)) ++ (codes " choice=" ++ number choice)) ++ (codes " octets=" ++ hexadecimal piece))
segment_rest at seq window more choice piece =
    both (both (both (both (number_held at name.Sequence seq refl) (number_held (at + 1) name.Window window refl)) (truth_held 0 name.More more refl)) (number_held (at + 2) name.Choice choice refl))
    (passed (at + 3) (one false (octets_field name.Octets piece) refl))

segment_line : (head : SegHead) (seq window : ℕ) (more : Bool) (choice : ℕ) (piece : List ℕ) → Prints false (part_steps head seq window more choice piece) (codes " " ++ segment_text head seq window more choice piece)
segment_line (Request head) seq window more choice piece =
    same_line (regroup (codes " conf-seg id=" ++ request_head_text head) (codes " seq=" ++ number seq) (codes " win=" ++ number window) (codes " more=" ++ truth_text more) (codes " choice=" ++ number choice) (codes " octets=" ++ hexadecimal piece))
    (both (both (held false 0 name.RequestSegment 0 refl) (head_line head)) (segment_rest 3 seq window more choice piece))
segment_line (Ack invoke) seq window more choice piece =
    same_line (regroup (codes " ack-seg id=" ++ number invoke) (codes " seq=" ++ number seq) (codes " win=" ++ number window) (codes " more=" ++ truth_text more) (codes " choice=" ++ number choice) (codes " octets=" ++ hexadecimal piece))
    (both (both (held false 0 name.AckSegment 0 refl) (number_held 1 name.InvokeId invoke refl)) (segment_rest 2 seq window more choice piece))

apdu_line : (a : ApduValue) (b : List ℕ) → SpellsApduBody a b → Prints false (apdu_steps a) (codes " " ++ apdu_text a)
apdu_line (confirmed_request head service) b h = confirmed_line head service b h
apdu_line (unconfirmed_request service) b h = both (held false 0 name.UnconfirmedRequest 0 refl) (passed 1 (service_of kind.Unconfirmed service b h))
apdu_line (simple_ack invoke choice) b h = closed 3 (both (both (held false 0 name.SimpleAck 0 refl) (number_held 1 name.InvokeId invoke refl)) (number_held 2 name.Choice choice refl))
apdu_line (complex_ack invoke service) b h = answer_line name.ComplexAck kind.ComplexAck invoke service b refl h
apdu_line (segment_ack invoke nak srv seq window) b h = segment_ack_line invoke nak srv seq window
apdu_line (error invoke service) b h = answer_line name.Error kind.Error invoke service b refl h
apdu_line (reject invoke reason) b h = closed 3 (both (both (held false 0 name.Reject 0 refl) (number_held 1 name.InvokeId invoke refl)) (number_held 2 name.Reason reason refl))
apdu_line (abort invoke srv reason) b h =
    closed 3 (both (both (both (held false 0 name.Abort 0 refl) (number_held 1 name.InvokeId invoke refl)) (truth_held 0 name.Server srv refl)) (number_held 2 name.Reason reason refl))
apdu_line (segment head seq window more choice piece) b h = segment_line head seq window more choice piece

-- ---- network messages

typed : (type : ℕ) → Prints false (next (octet_field name.NetworkMessage type) ∷ []) (codes " net type=" ++ hexadecimal (type ∷ []))
typed type = one false (octet_field name.NetworkMessage type) refl

network : (value : ℕ) → Prints false (next (two_octets_field name.Network value) ∷ []) (codes " network=" ++ number value)
network value = one false (two_octets_field name.Network value) refl

octet_line : (name : Name) (value : ℕ) → form_of name ≡ as_number → Prints false (next (octet_field name value) ∷ []) (codes " " ++ (word_of name ++ (codes "=" ++ number value)))
octet_line name value e = same_line (ap (λ f. lead false f ++ shown f (octet_field name value)) e) (one false (octet_field name value) (ap begins e))

each_of : {X : Type 0} (xs : List X) → Each (λ (x : X). Unit {0}) xs
each_of [] = tt
each_of (x ∷ xs) = (tt, each_of xs)

networks_line : (networks : List ℕ) → Prints false (networks_steps networks) (networks_text networks)
networks_line networks =
    opened false (word name.Networks) refl
    (list_rest (λ (n : ℕ). Unit {0}) listed_network_steps number (λ first n h. one first (two_octets_field name.ListedNetwork n) refl) (word name.ListEnd) networks refl (each_of networks))

port_item : (first : Bool) (port : Port) → Prints first (item_steps port_steps port) (blank first ++ port_text port)
port_item first port =
    item first port_steps port
    (both (both (one true (two_octets_field name.Network port.network) refl) (octet_line name.PortId port.id refl)) (one false (counted_field name.PortInfo port.info) refl))

ports_line : (ports : List Port) → Prints false (ports_steps ports) (codes " ports=" ++ listed_text port_text ports)
ports_line ports =
    opened false (counter_field name.Ports (length ports)) refl
    (list_rest (λ (p : Port). Unit {0}) (item_steps port_steps) port_text (λ first p h. port_item first p) (word name.ListEnd) ports refl (each_of ports))

table_line : (ports : Option (List Port)) → Prints false (option_map_or ports_steps ports []) (optional_text " ports=" (listed_text port_text) ports)
table_line None = nothing
table_line (Some ports) = ports_line ports

-- fields that begin nothing, one after another
abbrev are_plain : List Step → Bool
are_plain [] = true
are_plain (next v ∷ steps) = not (begins (form_of v.name)) && are_plain steps
are_plain _ = false

-- and what is printed of them
abbrev lines_of : List Step → List ℕ
lines_of (next v ∷ []) = line_of false v
lines_of (next v ∷ steps) = line_of false v ++ lines_of steps
lines_of _ = []

plain_then : (a b : Bool) → (not a && b) ≡ true → (a ≡ false) × (b ≡ true)
plain_then true b e = absurd (let i : false ≡ true = e in cc)
plain_then false b e = (refl, e)

plain_lines : (steps : List Step) → are_plain steps ≡ true → Prints false steps (lines_of steps)
plain_lines [] e = nothing
plain_lines (next v ∷ []) e = one false v (plain_then (begins (form_of v.name)) true e).0
plain_lines (next v ∷ step ∷ steps) e = let rest = plain_then (begins (form_of v.name)) (are_plain (step ∷ steps)) e in both (one false v rest.0) (plain_lines (step ∷ steps) rest.1)
plain_lines (step ∷ steps) e = absurd (let i : false ≡ true = e in cc)

-- the last line is that of each message whose fields are always the same
message_line : (m : MessageValue) → Prints false (message_steps m) (codes " " ++ message_text m)
message_line (who_is_router value) = both (typed 0) (optional_part " network=" (two_octets_field name.Network) number value network)
message_line (i_am_router networks) = both (typed 1) (networks_line networks)
message_line (router_busy networks) = both (typed 4) (networks_line networks)
message_line (router_available networks) = both (typed 5) (networks_line networks)
message_line (init_table ports) = both (typed 6) (ports_line ports)
message_line (init_table_ack ports) = both (typed 7) (table_line ports)
message_line (opaque m) =
    both (both (typed m.kind) (optional_part " vendor=" (two_octets_field name.Vendor) number m.vendor (λ n. one false (two_octets_field name.Vendor n) refl))) (one false (octets_field name.Data m.octets) refl)
message_line m = plain_lines (message_steps m) refl

-- ---- frames

destination_line : (size : ℕ) (destination : Option DestinationValue) → Prints false (destination_steps size destination) (optional_text " dest=" destination_text destination)
destination_line size None = nothing
destination_line size (Some d) = both (one false (address_field name.Destination d.network d.address) refl) (number_held size name.HopCount d.hops refl)

-- an address that has octets
address_shown : (address : List ℕ) → 1 ≤ length address → address_text address ≡ hexadecimal address
address_shown [] h = absurd (omega (arith, h))
address_shown (o ∷ octets) h = refl

source_line : (source : Option SourceValue) → HasAddress source → Prints false (source_steps source) (optional_text " src=" source_text source)
source_line None h = nothing
source_line (Some s) h = same_line (ap (λ a. codes " src=" ++ (number s.network ++ (codes "/" ++ a))) (address_shown s.address h)) (one false (address_field name.Source s.network s.address) refl)

hops_line : (destination : Option DestinationValue) → Prints false (hops_steps destination) []
hops_line None = nothing
hops_line (Some d) = passed 1 nothing

control_line : (priority : ℕ) (reply : Bool) → Prints true (control_steps priority reply) (codes "prio=" ++ number priority ++ (codes " reply=" ++ truth_text reply))
control_line priority reply = passed 1 (closed 1 (both (held true 0 name.NetworkPriority priority refl) (truth_held 0 name.ReplyExpected reply refl)))

body_line : (body : BodyValue) (b : List ℕ) → SpellsBody body b → Prints false (body_steps body) (codes " " ++ body_text body)
body_line (apdu a) b h = let s = headed_rest (head_of a) (SpellsApduBody a) b h in apdu_line a s.0 s.1
body_line (message m) b h = message_line m

frame_prints : (f : FrameValue) (b : List ℕ) → SpellsFrame f b → Prints true (frame_steps f) (text f)
frame_prints f b h =
    let body = body_of f b h in
    let control : List ℕ = codes "prio=" ++ number f.priority ++ (codes " reply=" ++ truth_text f.reply) in
    let destination : List ℕ = optional_text " dest=" destination_text f.destination in
    let source : List ℕ = optional_text " src=" source_text f.source in
    let line : List ℕ = codes " " ++ body_text f.body in
    same_line (sym (append_assoc control (destination ++ source) line) ∙ ap (λ l. l ++ line) (sym (append_assoc control destination source)))
    (both (control_line f.priority f.reply)
    (both (same_line (ap (λ l. destination ++ l) (append-nil source)) (both (destination_line (source_size f.source) f.destination) (both (source_line f.source h.has_address) (hops_line f.destination))))
    (body_line f.body body.0 body.1)))

-- the line of a frame is its fields, printed
pub frame_line : (f : FrameValue) (b : List ℕ) → SpellsFrame f b → printed (fields f) ≡ text f
frame_line f b h = ap printed (sym (append-nil (fields f))) ∙ (frame_prints f b h).prints [] ∙ append-nil (text f)
