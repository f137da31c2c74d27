-- What spells a service, an APDU, a network message or a frame is octets.
use Rattle.std.specs.Prelude.{◌≡◌, ℕ, ◌<◌, Bool, true, Option, Some, None, List, [], ◌∷◌, ◌++◌, map}
use Rattle.std.proofs.Common.{sym, subst, arith}
use Rattle.bac_tag.specs.declared.heads.TagHead.{TagHead}
use Rattle.bac_tag.specs.Octets.{IsOctets}
use Rattle.bac_tag.specs.Laws.Octets.{octets_append}
use Rattle.bac_tag.specs.HeadOctets.{Part, typed, limits, octet, window, SpellsPart, Headed}
use Rattle.bac_productions.specs.Fields.{IsField}
use Rattle.bac_productions.specs.Productions.{Optional, Items, Grouped}
use Rattle.bac_productions.specs.Contents.{ObjectField, EnumeratedField, UnsignedField, InstanceField, PriorityField, BooleanField, ApplicationObject, ApplicationUnsigned, ApplicationEnumerated, ApplicationUnsigned16}
use Rattle.bac_service.specs.declared.kind.Kind.{Kind}
use Rattle.bac_service.specs.declared.service.property_result.ReadResult.TheVariants.{Value, Error}
use Rattle.bac_service.specs.ObjectProperty.{SpellsObjectProperty}
use Rattle.bac_service.specs.PropertyReference.{SpellsPropertyReference}
use Rattle.bac_service.specs.PropertyResult.{SpellsReadResult, SpellsPropertyResult}
use Rattle.bac_service.specs.PropertyValue.{SpellsPropertyValue}
use Rattle.bac_service.specs.ReadAccessSpecification.{SpellsSpecification}
use Rattle.bac_service.specs.ReadAccessResult.{SpellsAccessResult}
use Rattle.bac_service.specs.WriteAccessSpecification.{SpellsWriteSpecification}
use Rattle.bac_service.specs.ErrorCause.{SpellsErrorCause}
use Rattle.bac_service.specs.ServiceTable.{ServiceProduction, read_property, read_property_ack, read_property_multiple, read_property_multiple_ack, write_property, write_property_multiple, write_property_multiple_error, who_is, i_am, subscribe_cov, cov_notification, service_error}
use Rattle.bac_service.specs.Services.{Said, ServiceValue, SpellsBy, SpellsSaid, SpellsService}
use Rattle.bac_apdu.specs.declared.segment.SegHead.{SegHead}
use Rattle.bac_apdu.specs.declared.segment.SegHead.TheVariants.{Request, Ack}
use Rattle.bac_apdu.specs.Segment.{segment_head}
use Rattle.bac_apdu.specs.Apdus.{ApduValue, confirmed_request, unconfirmed_request, simple_ack, complex_ack, segment_ack, error, reject, abort, segment, head_of, SpellsBody}
use Rattle.bac_npdu_parts.specs.declared.messages.port.Port.{Port}
use Rattle.bac_npdu_parts.specs.Messages.{MessageValue, who_is_router, i_am_router, i_could_be_router, reject_message, router_busy, router_available, init_table, init_table_ack, establish, disconnect, what_is_network_number, network_number_is, opaque, networks_of, network_or_none, ports_of, table_or_none, octets_of}
use Rattle.bac_npdu_parts.specs.Frames.{BodyValue, apdu, message, FrameValue, addresses_of, SpellsBody as SpellsFrameBody, SpellsFrame}
use Rattle.bac_npdu.proofs.ValueOctets.{joined, heads, boolean_contents, identifier_contents, enclosed, open_value}

-- ---- the kinds of parts

-- each list that spells a value is octets
abbrev AreOctets : {V : Type 0} → (V → List ℕ → Type 0) → Type 0
AreOctets {V} S = (v : V) (b : List ℕ) → S v b → IsOctets b

field : {V : Type 0} {contents : V → List ℕ → Type 0} (head_for : ℕ → TagHead) → AreOctets contents → AreOctets (IsField head_for contents)
field head_for contents v b h = subst IsOctets (sym h.octets) (octets_append h.head h.body (heads _ h.head h.headed) (contents v h.body h.spelled))

optional : {V : Type 0} {S : V → List ℕ → Type 0} → AreOctets S → AreOctets (Optional S)
optional part None b h = subst IsOctets (sym h) tt
optional part (Some v) b h = part v b h

items : {V : Type 0} {S : V → List ℕ → Type 0} → AreOctets S → AreOctets (Items S)
items part [] b h = subst IsOctets (sym h) tt
items part (v ∷ vs) b h = joined (part v) (items part vs) b h

grouped : {V : Type 0} {S : V → List ℕ → Type 0} (n : ℕ) → AreOctets S → AreOctets (Grouped n S)
grouped n part v b h = enclosed n (part v) b h

object : (n : ℕ) → AreOctets (ObjectField n)
object n v b h = field _ identifier_contents v b h

enumerated : (n : ℕ) → AreOctets (EnumeratedField n)
enumerated n v b h = field _ (λ w c s. s.are_octets) _ b h

unsigned : (n : ℕ) → AreOctets (UnsignedField n)
unsigned n v b h = field _ (λ w c s. s.are_octets) v b h

instance : (n : ℕ) → AreOctets (InstanceField n)
instance n v b h = field _ (λ w c s. s.are_octets) v b h

priority : (n : ℕ) → AreOctets (PriorityField n)
priority n v b h = field _ (λ w c s. s.are_octets) v b h

boolean : (n : ℕ) → AreOctets (BooleanField n)
boolean n v b h = field _ boolean_contents _ b h

application_object : AreOctets ApplicationObject
application_object v b h = field _ identifier_contents v b h

application_unsigned : AreOctets ApplicationUnsigned
application_unsigned v b h = field _ (λ w c s. s.are_octets) v b h

application_enumerated : AreOctets ApplicationEnumerated
application_enumerated v b h = field _ (λ w c s. s.are_octets) _ b h

application_unsigned16 : AreOctets ApplicationUnsigned16
application_unsigned16 v b h = field _ (λ w c s. s.are_octets) v b h

-- ---- services

object_property : AreOctets SpellsObjectProperty
object_property v b h = joined (object 0 v.0) (joined (enumerated 1 v.1.0) (optional (unsigned 2) v.1.1)) b h

property_reference : AreOctets SpellsPropertyReference
property_reference v b h = joined (enumerated 0 v.property) (optional (unsigned 1) v.index) b h

error_cause : AreOctets SpellsErrorCause
error_cause v b h = joined (application_enumerated v.class) (application_enumerated v.code) b h

read_result : (groups : ℕ) → AreOctets (SpellsReadResult groups)
read_result groups (Value v) b h = open_value groups 4 v b h
read_result groups (Error v) b h = grouped 5 error_cause v b h

property_result : (groups : ℕ) → AreOctets (SpellsPropertyResult groups)
property_result groups v b h = joined (enumerated 2 v.property) (joined (optional (unsigned 3) v.index) (read_result groups v.result)) b h

property_value : (groups : ℕ) → AreOctets (SpellsPropertyValue groups)
property_value groups v b h =
    joined (enumerated 0 v.property) (joined (optional (unsigned 1) v.index) (joined (open_value groups 2 v.value) (optional (priority 3) v.priority))) b h

specification : AreOctets SpellsSpecification
specification v b h = joined (object 0 v.object) (grouped 1 (items property_reference) v.properties) b h

access_result : (groups : ℕ) → AreOctets (SpellsAccessResult groups)
access_result groups v b h = joined (object 0 v.object) (optional (grouped 1 (items (property_result groups))) v.results) b h

write_specification : (groups : ℕ) → AreOctets (SpellsWriteSpecification groups)
write_specification groups v b h = joined (object 0 v.object) (grouped 1 (items (property_value groups)) v.values) b h

by_production : (groups : ℕ) (p : ServiceProduction) → AreOctets (SpellsBy groups p)
by_production groups read_property v b h = object_property _ b h
by_production groups read_property_ack v b h = joined (object_property _) (open_value groups 3 v.value) b h
by_production groups read_property_multiple v b h = items specification v b h
by_production groups read_property_multiple_ack v b h = items (access_result groups) v b h
by_production groups write_property v b h = joined (object_property _) (joined (open_value groups 3 v.value) (optional (priority 4) v.priority)) b h
by_production groups write_property_multiple v b h = items (write_specification groups) v b h
by_production groups write_property_multiple_error v b h = joined (grouped 0 error_cause _) (grouped 1 object_property _) b h
by_production groups who_is v b h = optional (λ w. joined (instance 0 w.0) (instance 1 w.1)) v.limits b h
by_production groups i_am v b h =
    joined (application_object v.object) (joined (application_unsigned v.apdu) (joined (application_enumerated v.segmentation) (application_unsigned16 v.vendor))) b h
by_production groups subscribe_cov v b h =
    joined (unsigned 0 v.process) (joined (object 1 v.object) (joined (optional (boolean 2) v.confirmed) (optional (unsigned 3) v.lifetime))) b h
by_production groups cov_notification v b h =
    joined (joined (unsigned 0 v.process) (joined (object 1 v.device) (object 2 v.object))) (joined (unsigned 3 v.remaining) (grouped 4 (items (property_value groups)) v.values)) b h
by_production groups service_error v b h = error_cause v b h

said : (groups : ℕ) (p : Option ServiceProduction) (v : Said p) (b : List ℕ) → SpellsSaid groups p v b → IsOctets b
said groups (Some p) v b h = by_production groups p v b h
said groups None v b h = subst IsOctets (sym h.0) h.1

service : (k : Kind) (c : ℕ) (x : ServiceValue) (b : List ℕ) → SpellsService true 32 k c x b → IsOctets b
service k c x b h = said 32 x.production x.said b h.spelled

-- ---- heads of PDUs

-- the octet of the part is below 256
abbrev IsSmall : Part → Type 0
IsSmall (typed type third second first zeroth) = type < 16
IsSmall _ = Unit {0}

abbrev AreSmall : List Part → Type 0
AreSmall [] = Unit {0}
AreSmall (p ∷ ps) = IsSmall p × AreSmall ps

part_small : (p : Part) (o : ℕ) → IsSmall p → SpellsPart p o → o < 256
part_small (typed type third second first zeroth) o small h = omega (arith, small, h.0)
part_small (limits segs resp) o small h = h.0
part_small (octet n) o small h = h.1
part_small (window n) o small h = omega (arith, h.0, h.1.1)

headed : {B : List ℕ → Type 0} → ((b : List ℕ) → B b → IsOctets b) → (ps : List Part) → AreSmall ps → (b : List ℕ) → Headed ps B b → IsOctets b
headed body [] small b h = body b h
headed body (p ∷ ps) small [] h = absurd h
headed body (p ∷ ps) small (o ∷ b) h = (part_small p o small.0 h.0, headed body ps small.1 b h.1)

-- ---- APDUs

segment_small : (h : SegHead) (q w : ℕ) (m : Bool) (c : ℕ) → AreSmall (segment_head h q w m c)
segment_small (Request head) q w m c = (omega arith, (tt, (tt, (tt, (tt, (tt, tt))))))
segment_small (Ack i) q w m c = (omega arith, (tt, (tt, (tt, (tt, tt)))))

head_small : (v : ApduValue) → AreSmall (head_of v)
head_small (confirmed_request head x) = (omega arith, (tt, (tt, (tt, tt))))
head_small (unconfirmed_request x) = (omega arith, (tt, tt))
head_small (simple_ack i c) = (omega arith, (tt, (tt, tt)))
head_small (complex_ack i x) = (omega arith, (tt, (tt, tt)))
head_small (segment_ack i n s q w) = (omega arith, (tt, (tt, (tt, tt))))
head_small (error i x) = (omega arith, (tt, (tt, tt)))
head_small (reject i r) = (omega arith, (tt, (tt, tt)))
head_small (abort i s r) = (omega arith, (tt, (tt, tt)))
head_small (segment h q w m c piece) = segment_small h q w m c

nothing : (b : List ℕ) → b ≡ [] → IsOctets b
nothing b e = subst IsOctets (sym e) tt

apdu_body : (v : ApduValue) (b : List ℕ) → SpellsBody v b → IsOctets b
apdu_body (confirmed_request head x) b h = service _ x.choice x b h
apdu_body (unconfirmed_request x) b h = service _ x.choice x b h
apdu_body (simple_ack i c) b h = nothing b h
apdu_body (complex_ack i x) b h = service _ x.choice x b h
apdu_body (segment_ack i n s q w) b h = nothing b h
apdu_body (error i x) b h = service _ x.choice x b h
apdu_body (reject i r) b h = nothing b h
apdu_body (abort i s r) b h = nothing b h
apdu_body (segment h q w m c piece) b s = s.1

-- ---- network messages

small_then : (xs : List ℕ) (ps : List Part) → AreSmall ps → AreSmall (map octet xs ++ ps)
small_then [] ps small = small
small_then (x ∷ xs) ps small = (tt, small_then xs ps small)

octets_small : (xs : List ℕ) → AreSmall (map octet xs)
octets_small [] = tt
octets_small (x ∷ xs) = (tt, octets_small xs)

networks_small : (ns : List ℕ) → AreSmall (networks_of ns)
networks_small [] = tt
networks_small (n ∷ ns) = (tt, (tt, networks_small ns))

network_small : (v : Option ℕ) → AreSmall (network_or_none v)
network_small None = tt
network_small (Some n) = (tt, (tt, tt))

vendor_small : (v : Option ℕ) (xs : List ℕ) → AreSmall (network_or_none v ++ map octet xs)
vendor_small None xs = octets_small xs
vendor_small (Some n) xs = (tt, (tt, octets_small xs))

ports_small : (ps : List Port) → AreSmall (ports_of ps)
ports_small [] = tt
ports_small (p ∷ ps) = (tt, (tt, (tt, (tt, small_then p.info (ports_of ps) (ports_small ps)))))

table_small : (t : Option (List Port)) → AreSmall (table_or_none t)
table_small None = tt
table_small (Some ps) = (tt, ports_small ps)

message_small : (m : MessageValue) → AreSmall (octets_of m)
message_small (who_is_router v) = (tt, network_small v)
message_small (i_am_router ns) = (tt, networks_small ns)
message_small (i_could_be_router n p) = (tt, (tt, (tt, (tt, tt))))
message_small (reject_message r n) = (tt, (tt, (tt, (tt, tt))))
message_small (router_busy ns) = (tt, networks_small ns)
message_small (router_available ns) = (tt, networks_small ns)
message_small (init_table ps) = (tt, (tt, ports_small ps))
message_small (init_table_ack t) = (tt, table_small t)
message_small (establish n t) = (tt, (tt, (tt, (tt, tt))))
message_small (disconnect n) = (tt, (tt, (tt, tt)))
message_small what_is_network_number = (tt, tt)
message_small (network_number_is n f) = (tt, (tt, (tt, (tt, tt))))
message_small (opaque m) = (tt, vendor_small m.vendor m.octets)

-- ---- frames

frame_body : (v : BodyValue) (b : List ℕ) → SpellsFrameBody v b → IsOctets b
frame_body (apdu v) b h = headed (apdu_body v) (head_of v) (head_small v) b h
frame_body (message m) b h = headed nothing (octets_of m) (message_small m) b h.1

pub frame : (f : FrameValue) (b : List ℕ) → SpellsFrame f b → IsOctets b
frame f b h =
    let body = frame_body f.body h.body h.is_body in
    subst IsOctets (sym h.octets_are) (omega arith, (h.is_control.small, octets_append (addresses_of f) h.body h.are_octets body))
