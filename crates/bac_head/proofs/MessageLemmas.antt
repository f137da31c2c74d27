-- What octets say of the head of a network message.
use Rattle.std.specs.Prelude.{◌≡◌, ℕ, ◌/◌, ◌%◌, ◌<◌, ◌≤◌, Option, Some, None, List, [], ◌∷◌, ◌++◌, length, map, take, drop, slice_index, refl}
use Rattle.std.proofs.Common.{sym, ◌∙◌, ap, arith}
use Rattle.bac_tag.specs.HeadOctets.{Part, octet, Headed}
use Rattle.bac_tag.proofs.HeadOctetLemmas.{headed_long}
use Rattle.bac_npdu_parts.specs.MessageTypes.{IsVendored}
use Rattle.bac_npdu_parts.specs.Messages.{MessageValue, who_is_router, i_am_router, i_could_be_router, reject_message, router_busy, router_available, init_table, init_table_ack, establish, disconnect, what_is_network_number, network_number_is, opaque, network_or_none, octets_of, SpellsMessage}
use Rattle.bac_head.specs.declared.message_head.MessageHead.{MessageHead}
use Rattle.bac_head.specs.Saying.{SaysVendor, vendor_size, SaysMessage, message_head_size}
use Rattle.bac_head.specs.Reach.{HasMessageHead}
use Rattle.bac_head.specs.Known.{message_head}
use Rattle.bac_head.proofs.AlikeLemmas.{front_at}
use Rattle.bac_head.proofs.ApduLemmas.{parts_at}

abbrev pub End : List ℕ → Type 0
End rest = rest ≡ []

-- a type below 128, and no vendor
typed_says : (t : ℕ) (ps : List Part) (c : List ℕ) → t < 128 → Headed (octet t ∷ ps) End c → SaysMessage (record { kind = t; vendor = None }) c
typed_says t ps c lt h =
    let q = parts_at (octet t ∷ ps) End c h in
    let first = q.0.0 in
    record { kind = sym first; vendor = omega (arith, first, lt); long = omega (arith, headed_long (octet t ∷ ps) End c h) }

opaque_says : (t : ℕ) (vendor : Option ℕ) (ps : List Part) (c : List ℕ) → IsVendored t vendor → Headed (octet t ∷ (network_or_none vendor ++ ps)) End c → SaysMessage (record { kind = t; vendor = vendor }) c
opaque_says t None ps c v h = typed_says t ps c v h
opaque_says t (Some n) ps c v h =
    let parts = octet t ∷ octet (n / 256) ∷ octet (n % 256) ∷ ps in
    let q = parts_at parts End c h in
    let first = q.0.0 in
    let high = q.1.0.0 in
    let low = q.1.1.0.0 in
    record { kind = sym first; vendor = (omega (arith, first, v), omega (arith, high, low)); long = omega (arith, headed_long parts End c h) }

message_says : (m : MessageValue) (c : List ℕ) → SpellsMessage m c → SaysMessage (message_head m) c
message_says (who_is_router network) c p = typed_says 0 (drop 1 (octets_of (who_is_router network))) c (omega arith) p.1
message_says (i_am_router networks) c p = typed_says 1 (drop 1 (octets_of (i_am_router networks))) c (omega arith) p.1
message_says (i_could_be_router network performance) c p = typed_says 2 (drop 1 (octets_of (i_could_be_router network performance))) c (omega arith) p.1
message_says (reject_message reason network) c p = typed_says 3 (drop 1 (octets_of (reject_message reason network))) c (omega arith) p.1
message_says (router_busy networks) c p = typed_says 4 (drop 1 (octets_of (router_busy networks))) c (omega arith) p.1
message_says (router_available networks) c p = typed_says 5 (drop 1 (octets_of (router_available networks))) c (omega arith) p.1
message_says (init_table ports) c p = typed_says 6 (drop 1 (octets_of (init_table ports))) c (omega arith) p.1
message_says (init_table_ack ports) c p = typed_says 7 (drop 1 (octets_of (init_table_ack ports))) c (omega arith) p.1
message_says (establish network time) c p = typed_says 8 (drop 1 (octets_of (establish network time))) c (omega arith) p.1
message_says (disconnect network) c p = typed_says 9 (drop 1 (octets_of (disconnect network))) c (omega arith) p.1
message_says what_is_network_number c p = typed_says 18 (drop 1 (octets_of what_is_network_number)) c (omega arith) p.1
message_says (network_number_is network flag) c p = typed_says 19 (drop 1 (octets_of (network_number_is network flag))) c (omega arith) p.1
message_says (opaque m) c p = opaque_says m.kind m.vendor (map octet m.octets) c p.0.1 p.1

-- octets say one vendor
vendor_once : (v w : Option ℕ) (b : List ℕ) → SaysVendor v b → SaysVendor w b → v ≡ w
vendor_once None None b p q = refl
vendor_once None (Some n) b p q = absurd (omega (arith, p, q.0))
vendor_once (Some m) None b p q = absurd (omega (arith, p.0, q))
vendor_once (Some m) (Some n) b p q = ap (λ (k : ℕ). Some k) (p.1 ∙ sym q.1)

message_once : (h k : MessageHead) (b : List ℕ) → SaysMessage h b → SaysMessage k b → h ≡ k
message_once h k b p q =
    let kind = p.kind ∙ sym q.kind in
    let vendor = vendor_once h.vendor k.vendor b p.vendor q.vendor in
    λ i. record { kind = kind i; vendor = vendor i }

vendor_still : (v : Option ℕ) (b c : List ℕ) → ((k : ℕ) → k < vendor_size v → slice_index c k ≡ slice_index b k) → SaysVendor v b → SaysVendor v c
vendor_still None b c same p = let e = same 0 (omega arith) in omega (arith, e, p)
vendor_still (Some n) b c same p =
    let e = same 0 (omega arith) in
    let f = same 1 (omega arith) in
    let g = same 2 (omega arith) in
    (omega (arith, e, p.0), omega (arith, f, g, p.1))

vendor_some : (v : Option ℕ) → 0 < vendor_size v
vendor_some None = omega arith
vendor_some (Some n) = omega arith

-- the head that was read is that of each network message that begins with its octets
pub message_agrees : (h : MessageHead) (m : MessageValue) (b more : List ℕ) → SaysMessage h b → SpellsMessage m (take (message_head_size h) b ++ more) → h ≡ message_head m
message_agrees h m b more p q =
    let n = message_head_size h in
    let c = take n b ++ more in
    let same : (k : ℕ) → k < n → slice_index c k ≡ slice_index b k = λ k lt. front_at n k b more lt p.long in
    let there = message_says m c q in
    let kind : h.kind ≡ (message_head m).kind = p.kind ∙ sym (same 0 (vendor_some h.vendor)) ∙ sym there.kind in
    let vendor : h.vendor ≡ (message_head m).vendor = vendor_once h.vendor (message_head m).vendor c (vendor_still h.vendor b c same p.vendor) there.vendor in
    λ i. record { kind = kind i; vendor = vendor i }

vendor_has : (v : Option ℕ) (b : List ℕ) → SaysVendor v b → vendor_size v ≤ length b → (1 ≤ length b) × (128 ≤ slice_index b 0 → 3 ≤ length b)
vendor_has None b p long = (long, λ high. absurd (omega (arith, high, p)))
vendor_has (Some n) b p long = (omega (arith, long), λ high. long)

pub message_has : (m : MessageValue) (b : List ℕ) → SpellsMessage m b → HasMessageHead b
message_has m b p = let s = message_says m b p in vendor_has (message_head m).vendor b s.vendor s.long
