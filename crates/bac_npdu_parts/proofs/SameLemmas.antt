-- Two frames are the same in each part exactly where they are the same frame, given this of their bodies.
use Rattle.std.proofs.Common.{◌≡◌, ℕ, Bool, true, false, ◌&&◌, nat_eq, Option, None, Some, refl, sym, ◌∙◌, ap, subst}
use Rattle.std.specs.Bool.{Decides, beq}
use Rattle.std.specs.Option.{option_eq}
use Rattle.std.specs.Cmp.{unsigned_Decides, booleans_Decides}
use Rattle.std.specs.Cmp.Lexicographic.{pointwise, bytes_decides}
use Rattle.bac_service.specs.Laws.Service.{never}
use Rattle.bac_service.proofs.SameLemmas.{Decided, by_parts, both, options, pairs}
use Rattle.bac_apdu.specs.declared.apdu.Apdu.{Apdu}
use Rattle.bac_apdu.specs.Apdus.{ApduValue, value_of as apdu_value}
use Rattle.bac_npdu_parts.specs.declared.destination.Dest.{Dest}
use Rattle.bac_npdu_parts.specs.declared.message.NetMessage.{NetMessage}
use Rattle.bac_npdu_parts.specs.declared.message.NetMessage.TheVariants as held
use Rattle.bac_npdu_parts.specs.declared.frame.Body.TheVariants.{Apdu as HeldApdu, Net}
use Rattle.bac_npdu_parts.specs.declared.frame.Frame.{Frame}
use Rattle.bac_npdu_parts.specs.Addresses.{DestinationValue}
use Rattle.bac_npdu_parts.specs.MessageTypes.{same_opaque_net}
use Rattle.bac_npdu_parts.specs.Ports.{same_ports}
use Rattle.bac_npdu_parts.specs.Same.{same_destination, same_source, same_message, same_front}
use Rattle.bac_npdu_parts.specs.Laws.Same.{tables_decided, opaque_net_decided}
use Rattle.bac_npdu_parts.specs.Messages.{MessageValue, who_is_router, i_am_router, i_could_be_router, reject_message, router_busy, router_available, init_table, init_table_ack, establish, disconnect, network_number_is, opaque, message_value}
use Rattle.bac_npdu_parts.specs.Frames.{apdu, message, destination_value, body_value, value_of}

abbrev destination_one : Dest → DestinationValue
destination_one d = record { network = d.network; address = d.address; hops = d.hops }

destinations : (a b : Dest) → Decides (same_destination a b) (destination_one a ≡ destination_one b)
destinations a b =
    by_parts (same_destination a b) (pairs unsigned_Decides (pairs unsigned_Decides bytes_decides) (a.network, (a.hops, a.address)) (b.network, (b.hops, b.address)))
    (λ e. λ i. record { network = (e i).0; address = (e i).1.1; hops = (e i).1.0 }) (λ e. λ i. ((e i).network, ((e i).hops, (e i).address)))

some_is : {V : Type 0} {v w : V} → Some v ≡ Some w → v ≡ w
some_is e = cc

destination_tells : (a b : Option Dest) → Decides (option_eq same_destination a b) (destination_value a ≡ destination_value b)
destination_tells None None = (λ h. refl, λ e. refl)
destination_tells None (Some b) = (λ h. absurd (cc h), λ e. absurd (cc e))
destination_tells (Some a) None = (λ h. absurd (cc h), λ e. absurd (cc e))
destination_tells (Some a) (Some b) = by_parts (same_destination a b) (destinations a b) (λ e. ap Some e) some_is

sources : Decided same_source
sources v w =
    by_parts (same_source v w) (pairs unsigned_Decides bytes_decides (v.network, v.address) (w.network, w.address)) (λ e. λ i. record { network = (e i).0; address = (e i).1 }) (λ e. λ i. ((e i).network, (e i).address))

two : (n m p q : ℕ) → Decides (nat_eq n m && nat_eq p q) ((n ≡ m) × (p ≡ q))
two n m p q = both (nat_eq n m) (nat_eq p q) (unsigned_Decides n m) (unsigned_Decides p q)

message_tells : (a b : NetMessage) → Decides (same_message a b) (message_value a ≡ message_value b)
message_tells (held.WhoIsRouter n) (held.WhoIsRouter m) = by_parts (option_eq nat_eq n m) (options unsigned_Decides n m) (λ e. ap who_is_router e) (λ e. cc)
message_tells (held.IAmRouter ns) (held.IAmRouter ms) = by_parts (pointwise nat_eq ns.items ms.items) (bytes_decides ns.items ms.items) (λ e. ap i_am_router e) (λ e. cc)
message_tells (held.ICouldBeRouter n p) (held.ICouldBeRouter m q) = by_parts (nat_eq n m && nat_eq p q) (two n m p q) (λ e. λ i. i_could_be_router (e.0 i) (e.1 i)) (λ e. (cc, cc))
message_tells (held.RejectMessage r n) (held.RejectMessage s m) = by_parts (nat_eq r s && nat_eq n m) (two r s n m) (λ e. λ i. reject_message (e.0 i) (e.1 i)) (λ e. (cc, cc))
message_tells (held.RouterBusy ns) (held.RouterBusy ms) = by_parts (pointwise nat_eq ns.items ms.items) (bytes_decides ns.items ms.items) (λ e. ap router_busy e) (λ e. cc)
message_tells (held.RouterAvailable ns) (held.RouterAvailable ms) = by_parts (pointwise nat_eq ns.items ms.items) (bytes_decides ns.items ms.items) (λ e. ap router_available e) (λ e. cc)
message_tells (held.InitTable ps) (held.InitTable qs) = by_parts (same_ports ps qs) (tables_decided ps qs) (λ e. ap init_table e) (λ e. cc)
message_tells (held.InitTableAck ps) (held.InitTableAck qs) = by_parts (option_eq same_ports ps qs) (options tables_decided ps qs) (λ e. ap init_table_ack e) (λ e. cc)
message_tells (held.Establish n t) (held.Establish m u) = by_parts (nat_eq n m && nat_eq t u) (two n m t u) (λ e. λ i. establish (e.0 i) (e.1 i)) (λ e. (cc, cc))
message_tells (held.Disconnect n) (held.Disconnect m) = by_parts (nat_eq n m) (unsigned_Decides n m) (λ e. ap disconnect e) (λ e. cc)
message_tells held.WhatIsNetworkNumber held.WhatIsNetworkNumber = (λ h. refl, λ e. refl)
message_tells (held.NetworkNumberIs n f) (held.NetworkNumberIs m g) = by_parts (nat_eq n m && nat_eq f g) (two n m f g) (λ e. λ i. network_number_is (e.0 i) (e.1 i)) (λ e. (cc, cc))
message_tells (held.Opaque a) (held.Opaque b) = by_parts (same_opaque_net a b) (opaque_net_decided a b) (λ e. ap opaque e) (λ e. cc)
message_tells a b = (λ h. never h, λ e. absurd (cc e))

-- the bodies of two frames, each an APDU or each a message
apdus_in_bodies : {a b : ApduValue} → apdu a ≡ apdu b → a ≡ b
apdus_in_bodies e = cc

messages_in_bodies : {m n : MessageValue} → message m ≡ message n → m ≡ n
messages_in_bodies e = cc

pub apdu_bodies_tell : (a b : Apdu) (r : Bool) → Decides r (apdu_value a ≡ apdu_value b) → Decides r (body_value (HeldApdu a) ≡ body_value (HeldApdu b))
apdu_bodies_tell a b r d = by_parts r d (λ e. ap apdu e) apdus_in_bodies

pub message_bodies_tell : (m n : NetMessage) (r : Bool) → r ≡ same_message m n → Decides r (body_value (Net m) ≡ body_value (Net n))
message_bodies_tell m n r e = subst (λ t. Decides t (body_value (Net m) ≡ body_value (Net n))) (sym e) (by_parts (same_message m n) (message_tells m n) (λ e. ap message e) messages_in_bodies)

-- what two frames say before their bodies
abbrev Fronts : Frame → Frame → Type 0
Fronts a b = (a.reply ≡ b.reply) × ((a.priority ≡ b.priority) × ((destination_value a.dest ≡ destination_value b.dest) × (a.source ≡ b.source)))

fronts_tell : (a b : Frame) → Decides (same_front a b) (Fronts a b)
fronts_tell a b =
    both (beq a.reply b.reply) _ (booleans_Decides a.reply b.reply)
    (both (nat_eq a.priority b.priority) _ (unsigned_Decides a.priority b.priority)
    (both (option_eq same_destination a.dest b.dest) (option_eq same_source a.source b.source) (destination_tells a.dest b.dest) (options sources a.source b.source)))

fronts_of : (a b : Frame) → value_of a ≡ value_of b → Fronts a b
fronts_of a b e = (λ i. (e i).reply, (λ i. (e i).priority, (λ i. (e i).destination, λ i. (e i).source)))

-- frames that differ before their bodies
pub frames_differ : (a b : Frame) (r : Bool) → r ≡ same_front a b → r ≡ false → Decides r (value_of a ≡ value_of b)
frames_differ a b r is differ = (λ h. never (sym differ ∙ h), λ e. is ∙ (fronts_tell a b).1 (fronts_of a b e))

-- frames that are the same before their bodies
pub frames_tell : (a b : Frame) (r : Bool) → same_front a b ≡ true → Decides r (body_value a.body ≡ body_value b.body) → Decides r (value_of a ≡ value_of b)
frames_tell a b r h d =
    let f = (fronts_tell a b).0 h in
    by_parts r d (λ e. λ i. record { reply = f.0 i; priority = f.1.0 i; destination = f.1.1.0 i; source = f.1.1.1 i; body = e i }) (λ e. λ i. (e i).body)
