-- Routing tables, and the messages that have one.
use Rattle.std.specs.Prelude.{◌≡◌, ◌≢◌, ◌⊎◌, ℕ, zero, suc, ◌+◌, ◌-◌, ◌*◌, ◌<◌, ◌≤◌, nat_eq, ◌||◌, Bool, true, false, Some, None, List, [], ◌∷◌, ◌++◌, length, map, drop, slice_index, refl}
use Rattle.std.proofs.Common.{inl, inr, sym, ◌∙◌, ap, subst, append_assoc, append-nil, length-drop, arith}
use Rattle.std.specs.List.{slice_range}
use Rattle.std.proofs.lemmas.List.{length-append, length-map, drop-drop, drop_more, get_or-drop}
use Rattle.std.proofs.Math.ListN.{drop_of_length-le}
use Rattle.std.proofs.lemmas.List.Folds.{drop_split}
use Rattle.bac_tag.specs.declared.refusals.Refusal.{Refusal}
use Rattle.bac_tag.specs.declared.refusals.Why.TheVariants.{Short, Trailing, OutOfMemory}
use Rattle.bac_tag.specs.declared.refusals.Why.{Why}
use Rattle.bac_tag.specs.Spelling.{IsViable, IsWholeRefusal}
use Rattle.bac_tag.specs.HeadOctets.{octet, Headed}
use Rattle.bac_tag.proofs.HeadOctetLemmas.{headed_long}
use Rattle.bac_tag.proofs.BehindLemmas.{whole_short, whole_trailing}
use Rattle.bac_npdu_parts.specs.declared.messages.port.Port.{Port}
use Rattle.bac_npdu_parts.specs.MessageTypes.{is_typed}
use Rattle.bac_npdu_parts.specs.Messages.{MessageValue, init_table, init_table_ack, opaque, ports_of, table_of, type_of, SpellsMessage}
use Rattle.bac_npdu_parts.specs.Decoded.{small_message, IsMessageRefused}
use Rattle.bac_npdu_parts.specs.Refused.{EndsInPort, IsHalfPort, IsPortRefusal, IsTable, LacksPorts, GoesOn, IsNoTable, IsTableRefusal}
use Rattle.bac_npdu_parts.proofs.WrittenLemmas.{ports_append}
use Rattle.bac_npdu_parts.proofs.MessageLemmas.{not_typed, high_octet, low_octet}
use Rattle.bac_npdu_parts.proofs.PartLemmas.{headed_weaker, headed_next, headed_then, headed_split, headed_octets, behind_octets}

-- ---- a port that is read

port_here : (p info r : List ℕ) (network : ℕ) → ((k : ℕ) → slice_index p k < 256) → 4 ≤ length p → network ≡ 256 * slice_index p 0 + slice_index p 1 → slice_index p 3 ≡ length info → drop 4 p ≡ info ++ r
    → Headed (ports_of (record { network = network; id = slice_index p 2; info = info } ∷ [])) (λ rest. rest ≡ r) p
port_here [] info r network small long n l e = absurd (omega arith)
port_here (x ∷ []) info r network small long n l e = absurd (omega arith)
port_here (x ∷ y ∷ []) info r network small long n l e = absurd (omega arith)
port_here (x ∷ y ∷ z ∷ []) info r network small long n l e = absurd (omega arith)
port_here (x ∷ y ∷ z ∷ w ∷ d) info r network small long n l e =
    let octets : (k : ℕ) → slice_index (info ++ r) k < 256 = λ k. subst (λ (t : List ℕ). slice_index t k < 256) e (small (suc (suc (suc (suc k))))) in
    rw n ((high_octet x y (small 1), small 0), ((low_octet x y (small 1), small 1), ((refl, small 2), ((l, small 3), subst (λ (t : List ℕ). Headed (map octet info ++ []) (λ rest. rest ≡ r) t) (sym e) (headed_octets info r octets)))))

pub port_read : (b p d info : List ℕ) (place count network : ℕ) → ((k : ℕ) → slice_index b k < 256) → drop place b ≡ p → drop 4 p ≡ d → 4 ≤ length p → network ≡ 256 * slice_index p 0 + slice_index p 1 → count ≡ slice_index p 3 → info ≡ slice_range d 0 count → length info ≡ count
    → Headed (ports_of (record { network = network; id = slice_index p 2; info = info } ∷ [])) (λ rest. rest ≡ drop (place + 4 + count) b) (drop place b)
port_read b p d info place count network small e f long n c i l =
    let octets : (k : ℕ) → slice_index p k < 256 = λ k. subst (λ (t : List ℕ). slice_index t k < 256) e (rw (get_or-drop place b k 0) (small (place + k))) in
    let rest : drop count d ≡ drop (place + 4 + count) b = ap (λ (t : List ℕ). drop count t) (sym f) ∙ drop-drop count 4 p ∙ ap (λ (t : List ℕ). drop (4 + count) t) (sym e) ∙ drop-drop (4 + count) place b ∙ ap (λ (k : ℕ). drop k b) (omega arith) in
    let cut : drop 4 p ≡ info ++ drop (place + 4 + count) b = f ∙ drop_split d 0 count (omega arith) ∙ ap (λ (t : List ℕ). t ++ drop count d) (sym i) ∙ ap (λ (t : List ℕ). info ++ t) rest in
    subst (λ (t : List ℕ). Headed (ports_of (record { network = network; id = slice_index p 2; info = info } ∷ [])) (λ rest. rest ≡ drop (place + 4 + count) b) t) (sym e) (port_here p info (drop (place + 4 + count) b) network octets long n (sym (l ∙ c)) cut)

-- ---- ports in turn

pub ports_next : (ps : List Port) (p : Port) (r s b : List ℕ) → Headed (ports_of ps) (λ rest. rest ≡ r) b → Headed (ports_of (p ∷ [])) (λ rest. rest ≡ s) r → Headed (ports_of (ps ++ p ∷ [])) (λ rest. rest ≡ s) b
ports_next ps p r s b h g = rw (ports_append ps (p ∷ [])) (headed_next (ports_of ps) (ports_of (p ∷ [])) (λ rest. rest ≡ s) r b h g)

pub table_read : (b : List ℕ) (ps : List Port) (place : ℕ) → ((k : ℕ) → slice_index b k < 256) → 2 ≤ length b → length ps ≡ slice_index b 1 → length b ≤ place → Headed (ports_of ps) (λ rest. rest ≡ drop place b) (drop 2 b) → Headed (table_of ps) (λ rest. rest ≡ []) (drop 1 b)
table_read [] ps place small long n le h = absurd (omega arith)
table_read (o ∷ []) ps place small long n le h = absurd (omega arith)
table_read (o ∷ k ∷ b) ps place small long n le h = ((sym n, small 1), subst (λ (r : List ℕ). Headed (ports_of ps) (λ rest. rest ≡ r) b) (drop_of_length-le (o ∷ k ∷ b) le) h)

-- a port that ends early lacks, where it is not the last
pub port_lacks : (b : List ℕ) (ps : List Port) (place i : ℕ) (r : Refusal) → length ps ≡ i → i < slice_index b 1 → Headed (ports_of ps) (λ rest. rest ≡ drop place b) (drop 2 b) → IsHalfPort b place r → IsNoTable b r
port_lacks b ps place i r n lt h w = inl (inr (ps, omega (arith, n), headed_weaker (ports_of ps) (λ rest. rest ≡ drop place b) EndsInPort (drop 2 b) (λ c e. subst EndsInPort (sym e) w.0) h), w.1)

pub port_missing : (b : List ℕ) (ps : List Port) (place i : ℕ) (r : Refusal) → length ps ≡ i → i < slice_index b 1 → Headed (ports_of ps) (λ rest. rest ≡ drop place b) (drop 2 b) → IsPortRefusal b place r → IsTableRefusal b r
port_missing b ps place i r n lt h (inl w) = inl (port_lacks b ps place i r n lt h w)
port_missing b ps place i r n lt h (inr w) = inr w

pub table_count : (b : List ℕ) (count : ℕ) → IsTable b count → slice_index b 1 ≡ count
table_count [] count t = absurd t.spelled
table_count (o ∷ []) count t = absurd t.spelled
table_count (o ∷ c ∷ b) count t = t.spelled.0.0 ∙ t.number

-- a port has four octets and its information
port_whole : (p : Port) (ps : List Port) (B : List ℕ → Type 0) (b : List ℕ) → Headed (ports_of (p ∷ ps)) B b → (4 + slice_index b 3 ≤ length b) × Headed (ports_of ps) B (drop (slice_index b 3) (drop 4 b))
port_whole p ps B [] h = absurd h
port_whole p ps B (x ∷ []) h = absurd h.1
port_whole p ps B (x ∷ y ∷ []) h = absurd h.1.1
port_whole p ps B (x ∷ y ∷ z ∷ []) h = absurd h.1.1.1
port_whole p ps B (x ∷ y ∷ z ∷ w ∷ d) h =
    let info = h.1.1.1.1 in
    let count : w ≡ length p.info = h.1.1.1.0.0 in (
      omega (arith, count, headed_long (map octet p.info ++ ports_of ps) B d info, length-append (map octet p.info) (ports_of ps), length-map p.info octet),
      subst (λ (n : ℕ). Headed (ports_of ps) B (drop n d)) (sym count) (behind_octets p.info (ports_of ps) B d info),
    )

-- what stands behind some ports, where as many or more begin the octets
ports_behind : (rs ps : List Port) (A B : List ℕ → Type 0) (b : List ℕ) → length rs ≤ length ps → Headed (ports_of rs) A b → Headed (ports_of ps) B b → (more : List Port) × (c : List ℕ) × A c × Headed (ports_of more) B c × (length ps ≡ length rs + length more)
ports_behind [] ps A B b le h g = (ps, b, h, g, omega arith)
ports_behind (r ∷ rs) [] A B b le h g = absurd (omega arith)
ports_behind (r ∷ rs) (p ∷ ps) A B b le h g =
    let i = ports_behind rs ps A B (drop (slice_index b 3) (drop 4 b)) (omega arith) (port_whole r rs A b h).1 (port_whole p ps B b g).1 in
    (i.0, i.1, i.2, i.3, omega (arith, i.4))

none_left : (more : List Port) (B : List ℕ → Type 0) (c : List ℕ) → length more ≡ 0 → Headed (ports_of more) B c → B c
none_left [] B c e h = h
none_left (p ∷ more) B c e h = absurd (omega (arith, e))

some_left : (more : List Port) (B : List ℕ → Type 0) (c : List ℕ) → 0 < length more → EndsInPort c → Headed (ports_of more) B c → ⊥
some_left [] B c lt ends h = absurd (omega arith)
some_left (p ∷ more) B c lt ends h = let w = (port_whole p more B c h).0 in let e = ends (omega (arith, w)) in omega (arith, w, e)

-- fewer ports, and one that ends early, are not so many ports
fewer_alone : (rs ps : List Port) (b : List ℕ) → length rs < length ps → Headed (ports_of rs) EndsInPort b → Headed (ports_of ps) (λ rest. rest ≡ []) b → ⊥
fewer_alone rs ps b lt h g = let i = ports_behind rs ps EndsInPort (λ rest. rest ≡ []) b (omega arith) h g in some_left i.0 (λ rest. rest ≡ []) i.1 (omega (arith, i.4)) i.2 i.3

-- so many ports, and octets behind them, are not so many ports
more_alone : (rs ps : List Port) (o : ℕ) (r b : List ℕ) → length rs ≡ length ps → Headed (ports_of rs) (λ rest. rest ≡ o ∷ r) b → Headed (ports_of ps) (λ rest. rest ≡ []) b → ⊥
more_alone rs ps o r b e h g =
    let i = ports_behind rs ps (λ rest. rest ≡ o ∷ r) (λ rest. rest ≡ []) b (omega (arith, e)) h g in
    let f : [] ≡ o ∷ r = sym (none_left i.0 (λ rest. rest ≡ []) i.1 (omega (arith, i.4, e)) i.3) ∙ i.2 in
    (cc)

-- the ports that are kept of a table are all of it
pub table_kept : (b : List ℕ) (ps : List Port) (place count : ℕ) → IsTable b count → length ps ≡ count → Headed (ports_of ps) (λ rest. rest ≡ drop place b) (drop 2 b) → Headed (table_of ps) (λ rest. rest ≡ []) (drop 1 b)
table_kept [] ps place count t n h = absurd t.spelled
table_kept (o ∷ []) ps place count t n h = absurd t.spelled
table_kept (o ∷ c ∷ b) ps place count t n h =
    let behind = drop place (o ∷ c ∷ b) in
    let same : length t.ports ≡ length ps = t.number ∙ sym n in
    let i = ports_behind ps t.ports (λ rest. rest ≡ behind) (λ rest. rest ≡ []) b (omega (arith, same)) h t.spelled.1 in
    let none : i.1 ≡ [] = none_left i.0 (λ rest. rest ≡ []) i.1 (omega (arith, i.4, same)) i.3 in
    ((t.spelled.0.0 ∙ same, t.spelled.0.1), subst (λ (r : List ℕ). Headed (ports_of ps) (λ rest. rest ≡ r) b) (sym i.2 ∙ none) h)

-- ---- ports that are missing

small_first : (x : ℕ) (b : List ℕ) → x < 256 → ((k : ℕ) → slice_index b k < 256) → (k : ℕ) → slice_index (x ∷ b) k < 256
small_first x b lt small zero = lt
small_first x b lt small (suc k) = small k

-- zeros behind octets, up to so many
zeros_behind : (n : ℕ) (b : List ℕ) → ((k : ℕ) → slice_index b k < 256) → length b ≤ n → (more : List ℕ) × (length (b ++ more) ≡ n) × ((k : ℕ) → slice_index (b ++ more) k < 256)
zeros_behind zero [] small le = ([], refl, small)
zeros_behind zero (o ∷ b) small le = absurd (omega arith)
zeros_behind (suc n) [] small le = let z = zeros_behind n [] small (omega arith) in (0 ∷ z.0, omega (arith, z.1), small_first 0 z.0 (omega arith) z.2)
zeros_behind (suc n) (o ∷ b) small le = let z = zeros_behind n b (λ k. small (suc k)) (omega arith) in (z.0, omega (arith, z.1), small_first o (b ++ z.0) (small 0) z.2)

-- octets that end within a port, and the zeros that it wants
port_filled : (b : List ℕ) → ((k : ℕ) → slice_index b k < 256) → EndsInPort b → (p : Port) × (more : List ℕ) × Headed (ports_of (p ∷ [])) (λ rest. rest ≡ []) (b ++ more)
port_filled [] small ends = (record { network = 0; id = 0; info = [] }, 0 ∷ 0 ∷ 0 ∷ 0 ∷ [], ((omega arith, omega arith), ((omega arith, omega arith), ((refl, omega arith), ((refl, omega arith), refl)))))
port_filled (x ∷ []) small ends = (record { network = 256 * x + 0; id = 0; info = [] }, 0 ∷ 0 ∷ 0 ∷ [], ((high_octet x 0 (omega arith), small 0), ((low_octet x 0 (omega arith), omega arith), ((refl, omega arith), ((refl, omega arith), refl)))))
port_filled (x ∷ y ∷ []) small ends = (record { network = 256 * x + y; id = 0; info = [] }, 0 ∷ 0 ∷ [], ((high_octet x y (small 1), small 0), ((low_octet x y (small 1), small 1), ((refl, omega arith), ((refl, omega arith), refl)))))
port_filled (x ∷ y ∷ z ∷ []) small ends = (record { network = 256 * x + y; id = z; info = [] }, 0 ∷ [], ((high_octet x y (small 1), small 0), ((low_octet x y (small 1), small 1), ((refl, small 2), ((refl, omega arith), refl)))))
port_filled (x ∷ y ∷ z ∷ w ∷ d) small ends =
    let m = zeros_behind w d (λ k. small (suc (suc (suc (suc k))))) (let e = ends (omega arith) in omega (arith, e)) in
    let info = subst (λ (t : List ℕ). Headed (map octet (d ++ m.0) ++ []) (λ rest. rest ≡ []) t) (append-nil (d ++ m.0)) (headed_octets (d ++ m.0) [] (rw (append-nil (d ++ m.0)) m.2)) in
    (record { network = 256 * x + y; id = z; info = d ++ m.0 }, m.0, ((high_octet x y (small 1), small 0), ((low_octet x y (small 1), small 1), ((refl, small 2), ((sym m.1, small 3), info)))))

-- so many ports of zeros
blank_ports : (n : ℕ) → (ps : List Port) × (b : List ℕ) × (length ps ≡ n) × Headed (ports_of ps) (λ rest. rest ≡ []) b
blank_ports zero = ([], [], refl, refl)
blank_ports (suc n) =
    let z = blank_ports n in
    (record { network = 0; id = 0; info = [] } ∷ z.0, 0 ∷ 0 ∷ 0 ∷ 0 ∷ z.1, ap suc z.2, ((omega arith, omega arith), ((omega arith, omega arith), ((refl, omega arith), ((refl, omega arith), z.3)))))

-- one list of ports, and behind it another
ports_both : (ps qs : List Port) (b c : List ℕ) → Headed (ports_of ps) (λ rest. rest ≡ []) b → Headed (ports_of qs) (λ rest. rest ≡ []) c → Headed (ports_of (ps ++ qs)) (λ rest. rest ≡ []) (b ++ c)
ports_both ps qs b c h g = rw (ports_append ps qs) (headed_next (ports_of ps) (ports_of qs) (λ rest. rest ≡ []) c (b ++ c) (headed_then (ports_of ps) b c h) g)

-- fewer ports, and one that ends early, begin so many ports
ports_filled : (n : ℕ) (rs : List Port) (b : List ℕ) → ((k : ℕ) → slice_index b k < 256) → length rs < n → Headed (ports_of rs) EndsInPort b → (ps : List Port) × (more : List ℕ) × (length ps ≡ n) × Headed (ports_of ps) (λ rest. rest ≡ []) (b ++ more)
ports_filled n rs b small lt h =
    let s = headed_split (ports_of rs) EndsInPort b h in
    let octets : (k : ℕ) → slice_index s.1 k < 256 = λ k. rw (sym (behind_at s.0 s.1 k)) (subst (λ (t : List ℕ). slice_index t (length s.0 + k) < 256) s.4 (small (length s.0 + k))) in
    let f = port_filled s.1 octets s.3 in
    let z = blank_ports (n - length rs - 1) in
    let behind = ports_both (f.0 ∷ []) z.0 (s.1 ++ f.1) z.1 f.2 z.3 in (
      rs ++ f.0 ∷ z.0,
      f.1 ++ z.1,
      omega (arith, length-append rs (f.0 ∷ z.0), z.2),
      subst (λ (t : List ℕ). Headed (ports_of (rs ++ f.0 ∷ z.0)) (λ rest. rest ≡ []) t) (ap (λ (t : List ℕ). s.0 ++ t) (append_assoc s.1 f.1 z.1) ∙ sym (append_assoc s.0 s.1 (f.1 ++ z.1)) ∙ ap (λ (t : List ℕ). t ++ (f.1 ++ z.1)) (sym s.4)) (ports_both rs (f.0 ∷ z.0) s.0 ((s.1 ++ f.1) ++ z.1) s.2 behind),
    )
  where
    behind_at : (b c : List ℕ) (k : ℕ) → slice_index (b ++ c) (length b + k) ≡ slice_index c k
    behind_at [] c k = let e : length {A = ℕ} [] + k ≡ k = omega arith in ap (λ (n : ℕ). slice_index c n) e
    behind_at (o ∷ b) c k = let e : length (o ∷ b) + k ≡ suc (length b + k) = omega arith in ap (λ (n : ℕ). slice_index (o ∷ (b ++ c)) n) e ∙ behind_at b c k

-- ---- messages with a table

-- the types of messages with a table
abbrev pub has_table : ℕ → Bool
has_table k = nat_eq k 6 || nat_eq k 7

not_these : {P : Type 0} (o k : ℕ) → o ≡ k → has_table k ≡ false → has_table o ≡ true → P
not_these o k e f g = absurd (let i : true ≡ false = sym g ∙ ap has_table e ∙ f in cc)

-- a table, or nothing in type 7
table_told : (m : MessageValue) (o : ℕ) (b : List ℕ) → is_typed o ≡ true → has_table o ≡ true → SpellsMessage m (o ∷ b) → ((o ≡ 7) × (b ≡ [])) ⊎ ((ps : List Port) × Headed (table_of ps) (λ rest. rest ≡ []) b)
table_told (init_table x) o b t n p = inr (x, p.1.1)
table_told (init_table_ack None) o b t n p = inl (p.1.0.0, p.1.1)
table_told (init_table_ack (Some x)) o b t n p = inr (x, p.1.1)
table_told (opaque x) o b t n p = not_typed o x.kind p.1.0.0 p.0.0 t
table_told m o b t n p = not_these o (type_of m) p.1.0.0 refl n

-- how messages with a table are made and refused
module _ (k : ℕ) (t : is_typed k ≡ true) (n : has_table k ≡ true) (make : List Port → MessageValue)
    (spelled : (ps : List Port) (o : ℕ) (b : List ℕ) → o ≡ k → Headed (table_of ps) (λ rest. rest ≡ []) b → SpellsMessage (make ps) (o ∷ b)) where
  -- behind two octets the ports are told, as many as the second says
  ports_told : (m : MessageValue) (o c : ℕ) (b : List ℕ) → o ≡ k → SpellsMessage m (o ∷ c ∷ b) → (ps : List Port) × (length ps ≡ c) × Headed (ports_of ps) (λ rest. rest ≡ []) b
  ports_told m o c b e s = elim (table_told m o (c ∷ b) (ap is_typed e ∙ t) (ap has_table e ∙ n) s) as (λ _. (ps : List Port) × (length ps ≡ c) × Headed (ports_of ps) (λ rest. rest ≡ []) b) [
    | inl w ↦ absurd (let i : c ∷ b ≡ [] = w.1 in cc)
    | inr w ↦ (w.0, sym w.1.0.0, w.1.1)
  ]

  -- one octet of type 6 is none, and begins a table
  short_alone : (o : ℕ) → o ≡ k → o ≢ 7 → (m : MessageValue) → SpellsMessage m (o ∷ []) → ⊥
  short_alone o e not m s = elim (table_told m o [] (ap is_typed e ∙ t) (ap has_table e ∙ n) s) as (λ _. ⊥) [
    | inl w ↦ not w.0
    | inr w ↦ w.1
  ]

  short_refused : (b : List ℕ) → IsViable SpellsMessage b → ((m : MessageValue) → SpellsMessage m b → ⊥) → IsMessageRefused b (record { place = length b; why = Short })
  short_refused b v none = record { refused = λ _. whole_short SpellsMessage b v none; memory = λ w. absurd (let i : Short ≡ OutOfMemory = w in cc); reason = inl refl }

  lacks_refused : (b : List ℕ) → ((k : ℕ) → slice_index b k < 256) → 0 < length b → slice_index b 0 ≡ k → (length b ≡ 1 → k ≢ 7) → LacksPorts b → IsMessageRefused b (record { place = length b; why = Short })
  lacks_refused [] small some e more l = absurd (omega arith)
  lacks_refused (o ∷ []) small some e more l =
      short_refused (o ∷ []) (record { value = make []; rest = 0 ∷ []; spelled = spelled [] o (0 ∷ []) e ((refl, omega arith), refl) }) (short_alone o e (λ f. more refl (sym e ∙ f)))
  lacks_refused (o ∷ c ∷ b) small some e more (inl w) = absurd (omega (arith, w))
  lacks_refused (o ∷ c ∷ b) small some e more (inr w) =
      let f = ports_filled c w.0 b (λ k. small (suc (suc k))) w.1 w.2 in
      short_refused (o ∷ c ∷ b) (record { value = make f.0; rest = f.1; spelled = spelled f.0 o (c ∷ (b ++ f.1)) e ((sym f.2, small 1), f.3) })
      (λ m s. let p = ports_told m o c b e s in fewer_alone w.0 p.0 b (omega (arith, w.1, p.1)) w.2 p.2)

  goes_refused : (b : List ℕ) (place : ℕ) → ((k : ℕ) → slice_index b k < 256) → slice_index b 0 ≡ k → GoesOn b place → IsMessageRefused b (record { place = place; why = Trailing })
  goes_refused [] place small e g = absurd (omega (arith, g.counted))
  goes_refused (o ∷ []) place small e g = absurd (omega (arith, g.counted))
  goes_refused (o ∷ c ∷ b) place small e g =
      let s = headed_split (ports_of g.ports) (λ rest. rest ≡ drop place (o ∷ c ∷ b)) b g.spelled in
      let next = slice_index (o ∷ c ∷ b) place in
      let more = drop (place + 1) (o ∷ c ∷ b) in
      let rest : s.1 ≡ next ∷ more = s.3 ∙ drop_more (o ∷ c ∷ b) place 0 g.within in
      let all : b ≡ s.0 ++ next ∷ more = s.4 ∙ ap (λ (l : List ℕ). s.0 ++ l) rest in
      let size : length (o ∷ c ∷ s.0) ≡ place = omega (arith, ap (λ (l : List ℕ). length l) s.4, length-append s.0 s.1, ap (λ (l : List ℕ). length l) s.3, length-drop place (o ∷ c ∷ b), g.within) in
      let whole = whole_trailing SpellsMessage (o ∷ c ∷ s.0) next more (make g.ports, spelled g.ports o (c ∷ s.0) e ((sym g.number, small 1), s.2))
      (λ m r p. let q = ports_told m o c (s.0 ++ next ∷ r) e p in more_alone g.ports q.0 next r (s.0 ++ next ∷ r) (g.number ∙ sym q.1) (headed_then (ports_of g.ports) s.0 (next ∷ r) s.2) q.2) in
      record {
        refused = λ _. subst (λ (z : ℕ). IsWholeRefusal SpellsMessage (o ∷ c ∷ b) (record { place = z; why = Trailing })) size (subst (λ (l : List ℕ). IsWholeRefusal SpellsMessage (o ∷ c ∷ l) (record { place = length (o ∷ c ∷ s.0); why = Trailing })) (sym all) whole);
        memory = λ w. absurd (let i : Trailing ≡ OutOfMemory = w in cc);
        reason = inr (inl refl);
      }

  pub table_spelled : (ps : List Port) (b : List ℕ) → 0 < length b → slice_index b 0 ≡ k → Headed (table_of ps) (λ rest. rest ≡ []) (drop 1 b) → SpellsMessage (make ps) b
  table_spelled ps [] some e h = absurd (omega (arith, some))
  table_spelled ps (o ∷ b) some e h = spelled ps o b e h

  pub no_table_refused : (b : List ℕ) → ((k : ℕ) → slice_index b k < 256) → 0 < length b → slice_index b 0 ≡ k → (length b ≡ 1 → k ≢ 7) → (r : Refusal) → IsNoTable b r → IsMessageRefused b r
  no_table_refused b small some e more r (inl w) = subst (IsMessageRefused b) (sym w.1) (lacks_refused b small some e more w.0)
  no_table_refused b small some e more r (inr w) =
      let same : r ≡ record { place = r.place; why = Trailing } = ap (λ (why : Why). record { place = r.place; why = why }) w.1 in
      subst (IsMessageRefused b) (sym same) (goes_refused b r.place small e w.0)

  pub table_refused : (b : List ℕ) → ((k : ℕ) → slice_index b k < 256) → 0 < length b → slice_index b 0 ≡ k → small_message k (length b) ≡ false → (length b ≡ 1 → k ≢ 7) → (r : Refusal) → IsTableRefusal b r → IsMessageRefused b r
  table_refused b small some e large more r (inl w) = no_table_refused b small some e more r w
  table_refused b small some e large more r (inr w) = subst (IsMessageRefused b) (sym w) (record {
    refused = λ f. absurd (f refl);
    memory = λ _. (refl, ap (λ (o : ℕ). small_message o (length b)) e ∙ large);
    reason = inr (inr refl);
  })
