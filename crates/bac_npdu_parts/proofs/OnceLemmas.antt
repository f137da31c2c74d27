-- No list spells two frames.
use Rattle.std.specs.Prelude.{◌≡◌, ℕ, zero, suc, ◌+◌, ◌*◌, ◌/◌, ◌%◌, ◌<◌, ◌≤◌, nat_eq, nat_lt, cond, Bool, true, false, Option, Some, None, List, [], ◌∷◌, ◌++◌, length, map, take, drop, slice_index, refl}
use Rattle.std.proofs.Common.{sym, ◌∙◌, ap, ap₂, subst, arith}
use Rattle.std.proofs.Math.Seq.{take-append_seam, drop-append_seam}
use Rattle.std.proofs.lemmas.Bool.{lt-leb, le-leb}
use Rattle.std.proofs.lemmas.List.{append-nil}
use Rattle.bac_tag.specs.HeadOctets.{Part, octet, Headed}
use Rattle.bac_apdu.specs.Apdus.{ApduValue, SpellsApdu}
use Rattle.bac_npdu_parts.specs.declared.messages.port.Port.{Port}
use Rattle.bac_npdu_parts.specs.MessageTypes.{OpaqueNetValue, is_typed, IsVendored}
use Rattle.bac_npdu_parts.specs.Messages.{MessageValue, who_is_router, i_am_router, i_could_be_router, reject_message, router_busy, router_available, init_table, init_table_ack, establish, disconnect, what_is_network_number, network_number_is, opaque, networks_of, network_or_none, ports_of, table_of, table_or_none, SpellsMessage}
use Rattle.bac_npdu_parts.specs.Addresses.{SourceValue, DestinationValue, two_octets}
use Rattle.bac_npdu_parts.specs.Frames.{BodyValue, apdu, message, FrameValue, is_there, is_message, SpellsBody, SpellsFrame}
use Rattle.bac_npdu_parts.proofs.HeadLemmas.{cons_same, addresses_agree, flag_once}
use Rattle.bac_npdu_parts.proofs.MessageLemmas.{nothing_spells}
use Rattle.bac_npdu_parts.proofs.HeadRefusedLemmas.{parts_of}
use Rattle.bac_npdu_parts.proofs.FrameLemmas.{framed_tail, framed_long}

-- ---- network messages, read from their octets

abbrev pub End : List ℕ → Type 0
End rest = rest ≡ []

octets_only : (xs : List ℕ) (ps : List Part) (B : List ℕ → Type 0) (b : List ℕ) → Headed (map octet xs ++ ps) B b → (rest : List ℕ) × (b ≡ xs ++ rest) × Headed ps B rest
octets_only [] ps B b h = (b, refl, h)
octets_only (x ∷ xs) ps B [] h = absurd h
octets_only (x ∷ xs) ps B (o ∷ b) h = let q = octets_only xs ps B b h.1 in (q.0, cons_same o x b (xs ++ q.0) h.0.0 q.1, q.2)

number_at : ℕ → List ℕ → ℕ
number_at k b = 256 * slice_index b k + slice_index b (suc k)

numbers : List ℕ → List ℕ
numbers [] = []
numbers (x ∷ []) = []
numbers (x ∷ y ∷ b) = (256 * x + y) ∷ numbers b

number_or_none : List ℕ → Option ℕ
number_or_none [] = None
number_or_none (x ∷ b) = Some (number_at 0 (x ∷ b))

ports : ℕ → List ℕ → List Port
ports zero b = []
ports (suc n) b = record { network = number_at 0 b; id = slice_index b 2; info = take (slice_index b 3) (drop 4 b) } ∷ ports n (drop (slice_index b 3) (drop 4 b))

table : List ℕ → List Port
table b = ports (slice_index b 0) (drop 1 b)

tables : List ℕ → Option (List Port)
tables [] = None
tables (n ∷ b) = Some (table (n ∷ b))

typed_message : ℕ → List ℕ → MessageValue
typed_message o b =
    cond (nat_eq o 0) (who_is_router (number_or_none b)) (cond (nat_eq o 1) (i_am_router (numbers b)) (cond (nat_eq o 2) (i_could_be_router (number_at 0 b) (slice_index b 2))
    (cond (nat_eq o 3) (reject_message (slice_index b 0) (number_at 1 b)) (cond (nat_eq o 4) (router_busy (numbers b)) (cond (nat_eq o 5) (router_available (numbers b)) (cond (nat_eq o 6) (init_table (table b))
    (cond (nat_eq o 7) (init_table_ack (tables b)) (cond (nat_eq o 8) (establish (number_at 0 b) (slice_index b 2)) (cond (nat_eq o 9) (disconnect (number_at 0 b)) (cond (nat_eq o 18) what_is_network_number (network_number_is (number_at 0 b) (slice_index b 2))))))))))))

message_at : ℕ → List ℕ → MessageValue
message_at o b = cond (is_typed o) (typed_message o b) (cond (nat_lt o 128) (opaque (record { kind = o; vendor = None; octets = b })) (opaque (record { kind = o; vendor = Some (number_at 0 b); octets = drop 2 b })))

number_is : (x y n : ℕ) → x ≡ n / 256 → y ≡ n % 256 → 256 * x + y ≡ n
number_is x y n e f = omega (arith, e, f)

numbers_are : (ns b : List ℕ) → Headed (networks_of ns) End b → numbers b ≡ ns
unfolding numbers
numbers_are [] b h = ap numbers h
numbers_are (n ∷ ns) [] h = absurd h
numbers_are (n ∷ ns) (x ∷ []) h = absurd h.1
numbers_are (n ∷ ns) (x ∷ y ∷ b) h = cons_same (256 * x + y) n (numbers b) ns (number_is x y n h.0.0 h.1.0.0) (numbers_are ns b h.1.1)

number_or_none_is : (v : Option ℕ) (b : List ℕ) → Headed (network_or_none v) End b → number_or_none b ≡ v
unfolding number_or_none number_at
number_or_none_is None b h = ap number_or_none h
number_or_none_is (Some n) [] h = absurd h
number_or_none_is (Some n) (x ∷ []) h = absurd h.1
number_or_none_is (Some n) (x ∷ y ∷ b) h = ap (λ (m : ℕ). Some m) (number_is x y n h.0.0 h.1.0.0)

port_same : (p : Port) (n i : ℕ) (info : List ℕ) → n ≡ p.network → i ≡ p.id → info ≡ p.info → record { network = n; id = i; info = info } ≡ p
port_same p n i info e f g =
    let a : record { network = n; id = i; info = info } ≡ record { network = p.network; id = i; info = info } = ap (λ (k : ℕ). let q : Port = record { network = k; id = i; info = info } in q) e in
    let b = ap (λ (k : ℕ). let q : Port = record { network = p.network; id = k; info = info } in q) f in
    let c = ap (λ (l : List ℕ). let q : Port = record { network = p.network; id = p.id; info = l } in q) g in
    a ∙ b ∙ c

ports_next_same : (p q : Port) (ps qs : List Port) → p ≡ q → ps ≡ qs → p ∷ ps ≡ q ∷ qs
ports_next_same p q ps qs e f = ap (λ (x : Port). x ∷ ps) e ∙ ap (λ (l : List Port). q ∷ l) f

ports_are : (ps : List Port) (b : List ℕ) → Headed (ports_of ps) End b → ports (length ps) b ≡ ps
unfolding ports number_at
ports_are [] b h = refl
ports_are (p ∷ ps) [] h = absurd h
ports_are (p ∷ ps) (x ∷ []) h = absurd h.1
ports_are (p ∷ ps) (x ∷ y ∷ []) h = absurd h.1.1
ports_are (p ∷ ps) (x ∷ y ∷ z ∷ []) h = absurd h.1.1.1
ports_are (p ∷ ps) (x ∷ y ∷ z ∷ w ∷ b) h =
    let q = octets_only p.info (ports_of ps) End b h.1.1.1.1 in
    let size : w ≡ length p.info = h.1.1.1.0.0 in
    let info : take w b ≡ p.info = ap (λ (k : ℕ). take k b) size ∙ ap (λ (l : List ℕ). take (length p.info) l) q.1 ∙ take-append_seam p.info q.0 in
    let rest : drop w b ≡ q.0 = ap (λ (k : ℕ). drop k b) size ∙ ap (λ (l : List ℕ). drop (length p.info) l) q.1 ∙ drop-append_seam p.info q.0 in
    ports_next_same (record { network = 256 * x + y; id = z; info = take w b }) p (ports (length ps) (drop w b)) ps (port_same p (256 * x + y) z (take w b) (number_is x y p.network h.0.0 h.1.0.0) h.1.1.0.0 info)
    (ap (λ (l : List ℕ). ports (length ps) l) rest ∙ ports_are ps q.0 q.2)

table_is : (ps : List Port) (b : List ℕ) → Headed (table_of ps) End b → table b ≡ ps
unfolding table
table_is ps [] h = absurd h
table_is ps (n ∷ b) h = ap (λ (k : ℕ). ports k b) h.0.0 ∙ ports_are ps b h.1

tables_are : (t : Option (List Port)) (b : List ℕ) → Headed (table_or_none t) End b → tables b ≡ t
unfolding tables
tables_are None b h = ap tables h
tables_are (Some ps) [] h = absurd h
tables_are (Some ps) (n ∷ b) h = ap (λ (l : List Port). Some l) (table_is ps (n ∷ b) h)

opaque_is : (m : OpaqueNetValue) (vendor : Option ℕ) (o : ℕ) (octets : List ℕ) → o ≡ m.kind → vendor ≡ m.vendor → octets ≡ m.octets → record { kind = o; vendor = vendor; octets = octets } ≡ m
opaque_is m vendor o octets e f g =
    let a : record { kind = o; vendor = vendor; octets = octets } ≡ record { kind = m.kind; vendor = vendor; octets = octets } = ap (λ (k : ℕ). let q : OpaqueNetValue = record { kind = k; vendor = vendor; octets = octets } in q) e in
    let b = ap (λ (v : Option ℕ). let q : OpaqueNetValue = record { kind = m.kind; vendor = v; octets = octets } in q) f in
    let c = ap (λ (l : List ℕ). let q : OpaqueNetValue = record { kind = m.kind; vendor = m.vendor; octets = l } in q) g in
    a ∙ b ∙ c

all_octets : (xs b : List ℕ) → Headed (map octet xs) End b → b ≡ xs
all_octets xs b h =
    let q = octets_only xs [] End b (subst (λ (ps : List Part). Headed ps End b) (sym (append-nil (map octet xs))) h) in
    q.1 ∙ ap (λ (l : List ℕ). xs ++ l) q.2 ∙ append-nil xs

vendor_octets : (n : ℕ) (xs b : List ℕ) → Headed (network_or_none (Some n) ++ map octet xs) End b → (number_at 0 b ≡ n) × (drop 2 b ≡ xs)
unfolding number_at
vendor_octets n xs [] h = absurd h
vendor_octets n xs (x ∷ []) h = absurd h.1
vendor_octets n xs (x ∷ y ∷ b) h = (number_is x y n h.0.0 h.1.0.0, all_octets xs b h.1.1)

-- a network, and an octet after it or before it
network_octet : (n p : ℕ) (b : List ℕ) → Headed (two_octets n ++ octet p ∷ []) End b → (number_at 0 b ≡ n) × (slice_index b 2 ≡ p)
unfolding number_at
network_octet n p [] h = absurd h
network_octet n p (x ∷ []) h = absurd h.1
network_octet n p (x ∷ y ∷ []) h = absurd h.1.1
network_octet n p (x ∷ y ∷ z ∷ b) h = (number_is x y n h.0.0 h.1.0.0, h.1.1.0.0)

octet_network : (r n : ℕ) (b : List ℕ) → Headed (octet r ∷ two_octets n) End b → (slice_index b 0 ≡ r) × (number_at 1 b ≡ n)
unfolding number_at
octet_network r n [] h = absurd h
octet_network r n (x ∷ []) h = absurd h.1
octet_network r n (x ∷ y ∷ []) h = absurd h.1.1
octet_network r n (x ∷ y ∷ z ∷ b) h = (h.0.0, number_is y z n h.1.0.0 h.1.1.0.0)

network_alone : (n : ℕ) (b : List ℕ) → Headed (two_octets n) End b → number_at 0 b ≡ n
unfolding number_at
network_alone n [] h = absurd h
network_alone n (x ∷ []) h = absurd h.1
network_alone n (x ∷ y ∷ b) h = number_is x y n h.0.0 h.1.0.0

message_is : (m : MessageValue) (o : ℕ) (b : List ℕ) → SpellsMessage m (o ∷ b) → message_at o b ≡ m
unfolding message_at typed_message
message_is (who_is_router v) o b h = ap (λ (k : ℕ). message_at k b) h.1.0.0 ∙ ap who_is_router (number_or_none_is v b h.1.1)
message_is (i_am_router ns) o b h = ap (λ (k : ℕ). message_at k b) h.1.0.0 ∙ ap i_am_router (numbers_are ns b h.1.1)
message_is (i_could_be_router n p) o b h = let q = network_octet n p b h.1.1 in ap (λ (k : ℕ). message_at k b) h.1.0.0 ∙ ap₂ i_could_be_router q.0 q.1
message_is (reject_message r n) o b h = let q = octet_network r n b h.1.1 in ap (λ (k : ℕ). message_at k b) h.1.0.0 ∙ ap₂ reject_message q.0 q.1
message_is (router_busy ns) o b h = ap (λ (k : ℕ). message_at k b) h.1.0.0 ∙ ap router_busy (numbers_are ns b h.1.1)
message_is (router_available ns) o b h = ap (λ (k : ℕ). message_at k b) h.1.0.0 ∙ ap router_available (numbers_are ns b h.1.1)
message_is (init_table ps) o b h = ap (λ (k : ℕ). message_at k b) h.1.0.0 ∙ ap init_table (table_is ps b h.1.1)
message_is (init_table_ack t) o b h = ap (λ (k : ℕ). message_at k b) h.1.0.0 ∙ ap init_table_ack (tables_are t b h.1.1)
message_is (establish n t) o b h = let q = network_octet n t b h.1.1 in ap (λ (k : ℕ). message_at k b) h.1.0.0 ∙ ap₂ establish q.0 q.1
message_is (disconnect n) o b h = ap (λ (k : ℕ). message_at k b) h.1.0.0 ∙ ap disconnect (network_alone n b h.1.1)
message_is what_is_network_number o b h = ap (λ (k : ℕ). message_at k b) h.1.0.0
message_is (network_number_is n f) o b h = let q = network_octet n f b h.1.1 in ap (λ (k : ℕ). message_at k b) h.1.0.0 ∙ ap₂ network_number_is q.0 q.1
message_is (opaque m) o b h = untyped m.vendor refl
  where
    layoutless : message_at o b ≡ cond (nat_lt o 128) (opaque (record { kind = o; vendor = None; octets = b })) (opaque (record { kind = o; vendor = Some (number_at 0 b); octets = drop 2 b }))
    layoutless = ap (λ (f : Bool). cond f (typed_message o b) (cond (nat_lt o 128) (opaque (record { kind = o; vendor = None; octets = b })) (opaque (record { kind = o; vendor = Some (number_at 0 b); octets = drop 2 b })))) (ap is_typed h.1.0.0 ∙ h.0.0)

    untyped : (v : Option ℕ) → m.vendor ≡ v → message_at o b ≡ opaque m
    untyped None e =
        let low : o < 128 = subst (λ (k : ℕ). k < 128) (sym h.1.0.0) (subst (IsVendored m.kind) e h.0.1) in
        let rest : Headed (map octet m.octets) End b = subst (λ (v : Option ℕ). Headed (network_or_none v ++ map octet m.octets) End b) e h.1.1 in
        let none : None ≡ m.vendor = sym e in
        layoutless ∙ ap (λ (f : Bool). cond f (opaque (record { kind = o; vendor = None; octets = b })) (opaque (record { kind = o; vendor = Some (number_at 0 b); octets = drop 2 b }))) (le-leb (suc o) 128 low) ∙ ap opaque (opaque_is m None o b h.1.0.0 none (all_octets m.octets b rest))
    untyped (Some n) e =
        let high : 128 ≤ o = subst (λ (k : ℕ). 128 ≤ k) (sym h.1.0.0) (subst (IsVendored m.kind) e h.0.1) in
        let rest : Headed (network_or_none (Some n) ++ map octet m.octets) End b = subst (λ (v : Option ℕ). Headed (network_or_none v ++ map octet m.octets) End b) e h.1.1 in
        let q = vendor_octets n m.octets b rest in
        let some : Some (number_at 0 b) ≡ m.vendor = ap (λ (k : ℕ). Some k) q.0 ∙ sym e in
        layoutless ∙ ap (λ (f : Bool). cond f (opaque (record { kind = o; vendor = None; octets = b })) (opaque (record { kind = o; vendor = Some (number_at 0 b); octets = drop 2 b }))) (lt-leb (suc o) 128 (omega (arith, high))) ∙ ap opaque (opaque_is m (Some (number_at 0 b)) o (drop 2 b) h.1.0.0 some q.1)

pub message_one : (m n : MessageValue) (b : List ℕ) → SpellsMessage m b → SpellsMessage n b → m ≡ n
message_one m n [] p q = absurd (nothing_spells m p)
message_one m n (o ∷ b) p q = sym (message_is m o b p) ∙ message_is n o b q

-- ---- frames

frame_same : (f g : FrameValue) → f.reply ≡ g.reply → f.priority ≡ g.priority → f.destination ≡ g.destination → f.source ≡ g.source → f.body ≡ g.body → f ≡ g
frame_same f g p q r s t =
    let a : f ≡ record { reply = g.reply; priority = f.priority; destination = f.destination; source = f.source; body = f.body } = ap (λ (x : Bool). let h : FrameValue = record { reply = x; priority = f.priority; destination = f.destination; source = f.source; body = f.body } in h) p in
    let b = ap (λ (x : ℕ). let h : FrameValue = record { reply = g.reply; priority = x; destination = f.destination; source = f.source; body = f.body } in h) q in
    let c = ap (λ (x : Option DestinationValue). let h : FrameValue = record { reply = g.reply; priority = g.priority; destination = x; source = f.source; body = f.body } in h) r in
    let d = ap (λ (x : Option SourceValue). let h : FrameValue = record { reply = g.reply; priority = g.priority; destination = g.destination; source = x; body = f.body } in h) s in
    let e = ap (λ (x : BodyValue). let h : FrameValue = record { reply = g.reply; priority = g.priority; destination = g.destination; source = g.source; body = x } in h) t in
    a ∙ b ∙ c ∙ d ∙ e

module _ (apdus : (v w : ApduValue) (b : List ℕ) → SpellsApdu v b → SpellsApdu w b → v ≡ w) where
  body_one : (x y : BodyValue) (b : List ℕ) → is_message x ≡ is_message y → SpellsBody x b → SpellsBody y b → x ≡ y
  body_one (apdu v) (apdu w) b e p q = ap apdu (apdus v w b p q)
  body_one (message m) (message n) b e p q = ap message (message_one m n b p q)
  body_one (apdu v) (message n) b e p q = absurd (let i : false ≡ true = e in cc)
  body_one (message m) (apdu w) b e p q = absurd (let i : true ≡ false = e in cc)

  pub frame_one : (f g : FrameValue) (b : List ℕ) → SpellsFrame f b → SpellsFrame g b → f ≡ g
  frame_one f g [] p q = absurd (omega (arith, framed_long f [] p))
  frame_one f g (v ∷ []) p q = absurd (omega (arith, framed_long f (v ∷ []) p))
  frame_one f g (v ∷ c ∷ b) p q =
      let x = parts_of f c b (subst (λ (n : ℕ). SpellsFrame f (n ∷ c ∷ b)) (framed_tail f v c b p).0 p) in
      let y = parts_of g c b (subst (λ (n : ℕ). SpellsFrame g (n ∷ c ∷ b)) (framed_tail g v c b q).0 q) in
      let agree = addresses_agree f.destination g.destination f.source g.source x.rest y.rest (flag_once 5 c (is_there f.destination) (is_there g.destination) x.control.destination y.control.destination) (flag_once 3 c (is_there f.source) (is_there g.source) x.control.source y.control.source) (sym x.octets_are ∙ y.octets_are) in
      let body = body_one f.body g.body y.rest (flag_once 7 c (is_message f.body) (is_message g.body) x.control.message y.control.message) (subst (SpellsBody f.body) agree.2 x.body) y.body in
      frame_same f g (flag_once 2 c f.reply g.reply x.control.reply y.control.reply) (sym x.control.priority ∙ y.control.priority) agree.0 agree.1 body
