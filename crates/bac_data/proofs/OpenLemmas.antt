-- An open value between its tags ends itself, and what may follow the events read so far.
use Rattle.std.proofs.Common.{◌≡◌, ℕ, ◌+◌, ◌≤◌, List, [], ◌∷◌, ◌++◌, length, refl, sym, ◌∙◌, ap, subst, ◌⊎◌, inl, inr, arith, append_assoc, append-nil}
use Rattle.std.proofs.lemmas.List.{append_cancel_left}
use Rattle.bac_tag.specs.Spelling.{EndsItself}
use Rattle.bac_data.specs.OpenValue.{Element, primitive, context, group, Elements, none, more, element_depth, depth}
use Rattle.bac_data.specs.Spells.{SpellsOpen}
use Rattle.bac_data.specs.Events.{Event, application, contextual, opening, closing, element_events, events, Opens, NextIn, SpellsEvent, SpellsEvents, value_of_events}
use Rattle.bac_data.specs.Laws.Events.{levels-append}
use Rattle.bac_data.proofs.EventLemmas.{whole, whole_spelled}
use Rattle.bac_data.specs.Laws.Alignment.{Ahead, aligned}

-- ---- open values end themselves

pub events_end : (v w : Elements) (m n : ℕ) (es fs : List Event) → events v ++ closing m ∷ es ≡ events w ++ closing n ∷ fs → (v ≡ w) × (closing m ∷ es ≡ closing n ∷ fs)
events_end v w m n es fs e =
    let ev : v ≡ w = sym (ap (λ s. s.0) (levels-append v (closing m ∷ es) refl)) ∙ ap value_of_events e ∙ ap (λ s. s.0) (levels-append w (closing n ∷ fs) refl) in
    (ev, append_cancel_left (events v) (closing m ∷ es) (closing n ∷ fs) (e ∙ ap (λ u. events u ++ closing n ∷ fs) (sym ev)))

tail_same : {A : Type 0} {a b : A} {x y : List A} → a ∷ x ≡ b ∷ y → x ≡ y
tail_same e = cc

one_ahead : (v w : Elements) (n : ℕ) (b c : List ℕ) → Ahead (whole n v) (whole n w) b c → (b ≡ c) × (v ≡ w)
one_ahead v w n b c h =
    let gs = h.more_events in
    let inside : events w ++ closing n ∷ [] ≡ (events v ++ closing n ∷ []) ++ gs = tail_same h.events_are in
    let same = events_end v w n n gs [] (sym (append_assoc (events v) (closing n ∷ []) gs) ∙ sym inside) in
    let nothing : gs ≡ [] = tail_same same.1 in
    let empty : h.more_octets ≡ [] = subst (λ l. SpellsEvents l h.more_octets) nothing h.spelled in
    (sym (h.octets_are ∙ ap (λ l. b ++ l) empty ∙ append-nil b), same.0)

-- no list spells two open values, and no spelling begins another
pub open_ends : (limit n : ℕ) → EndsItself (SpellsOpen limit n)
open_ends limit n v w b c x y p q e =
    elim (aligned (whole n v) (whole n w) b c x y (whole_spelled limit n v b p) (whole_spelled limit n w c q) e) [
      | inl a ↦ one_ahead v w n b c a
      | inr a ↦ let same = one_ahead w v n c b a in (sym same.0, sym same.1)
    ]

-- ---- open groups

pub Opens-append : (limit : ℕ) (es fs : List Event) (s t u : List ℕ) → Opens limit s es t → Opens limit t fs u → Opens limit s (es ++ fs) u
Opens-append limit [] fs s t u p q = subst (λ r. Opens limit r fs u) (sym p) q
Opens-append limit (application prim ∷ es) fs s t u p q = Opens-append limit es fs s t u p q
Opens-append limit (contextual number octets ∷ es) fs s t u p q = Opens-append limit es fs s t u p q
Opens-append limit (opening n ∷ es) fs s t u p q = (p.0, Opens-append limit es fs (n ∷ s) t u p.1 q)
Opens-append limit (closing n ∷ es) fs s t u (r, e, p) q = (r, e, Opens-append limit es fs r t u p q)

pub Opens-split : (limit : ℕ) (es fs : List Event) (s u : List ℕ) → Opens limit s (es ++ fs) u → (t : List ℕ) × Opens limit s es t × Opens limit t fs u
Opens-split limit [] fs s u p = (s, refl, p)
Opens-split limit (application prim ∷ es) fs s u p = Opens-split limit es fs s u p
Opens-split limit (contextual number octets ∷ es) fs s u p = Opens-split limit es fs s u p
Opens-split limit (opening n ∷ es) fs s u p = let (t, a, b) = Opens-split limit es fs (n ∷ s) u p.1 in (t, (p.0, a), b)
Opens-split limit (closing n ∷ es) fs s u (r, e, p) = let (t, a, b) = Opens-split limit es fs r u p in (t, (r, e, a), b)

pub Opens-one : (limit : ℕ) (es : List Event) (s t u : List ℕ) → Opens limit s es t → Opens limit s es u → t ≡ u
Opens-one limit [] s t u p q = sym p ∙ q
Opens-one limit (application prim ∷ es) s t u p q = Opens-one limit es s t u p q
Opens-one limit (contextual number octets ∷ es) s t u p q = Opens-one limit es s t u p q
Opens-one limit (opening n ∷ es) s t u p q = Opens-one limit es (n ∷ s) t u p.1 q.1
Opens-one limit (closing n ∷ es) s t u (r, e, p) (r', e', q) =
    let same : r' ≡ r = tail_same (sym e' ∙ e) in
    Opens-one limit es r t u p (subst (λ z. Opens limit z es u) same q)

-- a value leaves the open groups as they were
mutual
  pub element-opens : (limit : ℕ) (e : Element) (s : List ℕ) → length s + element_depth e ≤ limit → Opens limit s (element_events e) s
  element-opens limit (primitive prim) s h = refl
  element-opens limit (context number octets) s h = refl
  element-opens limit (group n v) s h =
      (omega arith, Opens-append limit (events v) (closing n ∷ []) (n ∷ s) (n ∷ s) s (events-opens limit v (n ∷ s) (omega arith)) (s, refl, refl))

  pub events-opens : (limit : ℕ) (v : Elements) (s : List ℕ) → length s + depth v ≤ limit → Opens limit s (events v) s
  events-opens limit none s h = refl
  events-opens limit (more e v) s h = Opens-append limit (element_events e) (events v) s s s (element-opens limit e s (omega arith)) (events-opens limit v s (omega arith))

-- ---- what may follow the events read so far

pub record Follows (limit n : ℕ) (s r : List ℕ) : Type 0 where
  pub event : Event
  pub front : List ℕ
  pub rest : List ℕ
  pub spelled : SpellsEvent event front
  pub octets : r ≡ front ++ rest
  pub next : NextIn limit n s event

heads_same : {a b : ℕ} {x y : List ℕ} → a ∷ x ≡ b ∷ y → b ≡ a
heads_same e = cc

-- the first of events that go on from these open groups
pub next_of : (limit n : ℕ) (s : List ℕ) (e : Event) (gs : List Event) (t : List ℕ) → Opens limit s (e ∷ gs) t → NextIn limit n s e
next_of limit n s (application prim) gs t h = tt
next_of limit n s (contextual m o) gs t h = tt
next_of limit n s (opening m) gs t h = h.0
next_of limit n [] (closing m) gs t (r, e, h) = absurd (let i : [] ≡ m ∷ r = e in cc)
next_of limit n (k ∷ s) (closing m) gs t (r, e, h) = heads_same e

-- two ways to cut one list
pub record Longer {A : Type 0} (a b c d : List A) : Type 0 where
  pub middle : List A
  pub first : a ≡ c ++ middle
  pub second : d ≡ middle ++ b

pub two_cuts : {A : Type 0} (a b c d : List A) → a ++ b ≡ c ++ d → Longer a b c d ⊎ Longer c d a b
two_cuts [] b c d e = inr (record { middle = c; first = refl; second = e })
two_cuts (x ∷ a) b [] d e = inl (record { middle = x ∷ a; first = refl; second = sym e })
two_cuts (x ∷ a) b (y ∷ c) d e =
    let t : a ++ b ≡ c ++ d = tail_same e in
    let i : x ≡ y = cc in
    elim (two_cuts a b c d t) [
      | inl h ↦ inl (record { middle = h.middle; first = (let u : x ∷ a ≡ y ∷ (c ++ h.middle) = cc (i, h.first) in u); second = h.second })
      | inr h ↦ inr (record { middle = h.middle; first = (let u : y ∷ c ≡ x ∷ (a ++ h.middle) = cc (i, h.first) in u); second = h.second })
    ]

-- what has begun inside the tags has not been closed
not_closed : (limit n : ℕ) (v : Elements) (es gs : List Event) (s : List ℕ) → depth v ≤ limit → Opens limit [] es s → es ≡ events v ++ closing n ∷ gs → ⊥
not_closed limit n v es gs s h p e =
    let p' : Opens limit [] (events v ++ closing n ∷ gs) s = subst (λ l. Opens limit [] l s) e p in
    let (t, a, (r, i, _)) = Opens-split limit (events v) (closing n ∷ gs) [] s p' in
    let same : t ≡ [] = Opens-one limit (events v) [] t [] a (events-opens limit v [] (omega arith)) in
    let empty : [] ≡ n ∷ r = sym same ∙ i in cc

-- the first of what is left
record First (limit n : ℕ) (s : List ℕ) (gs : List Event) : Type 0 where
  event : Event
  others : List Event
  is : gs ≡ event ∷ others
  next : NextIn limit n s event

first_inside : (limit n : ℕ) (v : Elements) (es k gs : List Event) (s : List ℕ) → depth v ≤ limit → Opens limit [] es s → events v ≡ es ++ k → gs ≡ k ++ closing n ∷ [] → First limit n s gs
first_inside limit n v es [] gs s h p e g =
    let p' : Opens limit [] (events v) s = subst (λ l. Opens limit [] l s) (sym (e ∙ append-nil es)) p in
    let empty : [] ≡ s = Opens-one limit (events v) [] [] s (events-opens limit v [] (omega arith)) p' in
    record { event = closing n; others = []; is = g; next = subst (λ z. NextIn limit n z (closing n)) empty refl }
first_inside limit n v es (f ∷ k) gs s h p e g =
    let q : Opens limit [] (es ++ f ∷ k) [] = subst (λ l. Opens limit [] l []) e (events-opens limit v [] (omega arith)) in
    let (t, a, b) = Opens-split limit es (f ∷ k) [] [] q in
    let same : t ≡ s = Opens-one limit es [] t s a p in
    record { event = f; others = k ++ closing n ∷ []; is = g; next = next_of limit n s f k [] (subst (λ z. Opens limit z (f ∷ k) []) same b) }

first_left : (limit n : ℕ) (v : Elements) (es gs : List Event) (s : List ℕ) → depth v ≤ limit → Opens limit [] es s → events v ++ closing n ∷ [] ≡ es ++ gs → First limit n s gs
first_left limit n v es gs s h p e =
    elim (two_cuts (events v) (closing n ∷ []) es gs e) [
      | inl l ↦ first_inside limit n v es l.middle gs s h p l.first l.second
      | inr l ↦ behind l.middle l.first l.second
    ]
  where
    behind : (k : List Event) → es ≡ events v ++ k → closing n ∷ [] ≡ k ++ gs → First limit n s gs
    behind [] a b = first_inside limit n v es [] gs s h p (sym (a ∙ append-nil (events v)) ∙ sym (append-nil es)) (sym b)
    behind (j ∷ k) a b =
        let i : closing n ≡ j = cc in
        absurd (not_closed limit n v es k s h p (a ∙ ap (λ l. events v ++ l ∷ k) (sym i)))

-- Where events that are begun spell a front of a list that begins with an open value, another event follows them, and it may stand there.
pub what_follows : (limit n : ℕ) (v : Elements) (es : List Event) (s p r b x : List ℕ) → Opens limit [] es s → SpellsEvents (opening n ∷ es) p → SpellsOpen limit n v b → p ++ r ≡ b ++ x
    → Follows limit n s r
what_follows limit n v es s p r b x o q w e =
    elim (aligned (opening n ∷ es) (whole n v) p b r x q (whole_spelled limit n v b w) e) [
      | inl h ↦ ahead h
      | inr h ↦
          let inside : es ≡ (events v ++ closing n ∷ []) ++ h.more_events = tail_same h.events_are in
          absurd (not_closed limit n v es h.more_events s w.nested o (inside ∙ append_assoc (events v) (closing n ∷ []) h.more_events))
    ]
  where
    found : (d : List ℕ) (f : Event) (hs : List Event) → b ≡ p ++ d → SpellsEvents (f ∷ hs) d → NextIn limit n s f → Follows limit n s r
    found d f hs i t next = record {
      event = f;
      front = t.front;
      rest = t.back ++ x;
      spelled = t.first;
      octets = append_cancel_left p r (t.front ++ (t.back ++ x)) (e ∙ ap (λ l. l ++ x) (i ∙ ap (λ l. p ++ l) t.octets) ∙ append_assoc p (t.front ++ t.back) x ∙ ap (λ l. p ++ l) (append_assoc t.front t.back x));
      next = next;
    }

    ahead : Ahead (opening n ∷ es) (whole n v) p b → Follows limit n s r
    ahead h =
        let inside : events v ++ closing n ∷ [] ≡ es ++ h.more_events = tail_same h.events_are in
        let left = first_left limit n v es h.more_events s w.nested o inside in
        found h.more_octets left.event left.others h.octets_are (subst (λ l. SpellsEvents l h.more_octets) left.is h.spelled) left.next
