-- A list spells one list of events.
use Rattle.std.proofs.Common.{◌≡◌, ℕ, ◌<◌, ◌≤◌, List, [], ◌∷◌, ◌++◌, length, refl, sym, ◌∙◌, ap, subst, ◌⊎◌, inl, inr, arith, append_assoc, append-nil, length-append}
use Rattle.std.proofs.lemmas.List.{append_cancel_left}
use Rattle.bac_data.specs.Events.{Event, SpellsEvent, SpellsEvents}
use Rattle.bac_data.specs.Laws.Heads.{headed, head_some, event_ends}

-- ---- of two lists of events that spell fronts of one list, one begins the other

pub record Ahead (es fs : List Event) (b c : List ℕ) : Type 0 where
  pub more_events : List Event
  pub more_octets : List ℕ
  pub events_are : fs ≡ es ++ more_events
  pub octets_are : c ≡ b ++ more_octets
  pub spelled : SpellsEvents more_events more_octets

cons_ahead : (e f : Event) (es fs : List Event) (a b c d : List ℕ) → e ≡ f → Ahead es fs b c → d ≡ a ++ c → Ahead (e ∷ es) (f ∷ fs) (a ++ b) d
cons_ahead e f es fs a b c d i h w = record {
  more_events = h.more_events;
  more_octets = h.more_octets;
  events_are = (let u : f ∷ fs ≡ e ∷ (es ++ h.more_events) = cc (i, h.events_are) in u);
  octets_are = w ∙ ap (λ l. a ++ l) h.octets_are ∙ sym (append_assoc a b h.more_octets);
  spelled = h.spelled;
}

pub aligned : (es fs : List Event) (b c x y : List ℕ) → SpellsEvents es b → SpellsEvents fs c → b ++ x ≡ c ++ y → Ahead es fs b c ⊎ Ahead fs es c b
aligned [] fs b c x y p q w = inl (record { more_events = fs; more_octets = c; events_are = refl; octets_are = ap (λ l. l ++ c) (sym p); spelled = q })
aligned (e ∷ es) [] b c x y p q w = inr (record { more_events = e ∷ es; more_octets = b; events_are = refl; octets_are = ap (λ l. l ++ b) (sym q); spelled = p })
aligned (e ∷ es) (f ∷ fs) b c x y p q w =
    let split : p.front ++ (p.back ++ x) ≡ q.front ++ (q.back ++ y) =
    sym (append_assoc p.front p.back x) ∙ ap (λ l. l ++ x) (sym p.octets) ∙ w ∙ ap (λ l. l ++ y) q.octets ∙ append_assoc q.front q.back y in
    let same = event_ends e f p.front q.front (p.back ++ x) (q.back ++ y) p.first q.first split in
    let rest : p.back ++ x ≡ q.back ++ y = append_cancel_left p.front (p.back ++ x) (q.back ++ y) (split ∙ ap (λ l. l ++ (q.back ++ y)) (sym same.0)) in
    elim (aligned es fs p.back q.back x y p.second q.second rest) [
      | inl h ↦ inl (subst (λ l. Ahead (e ∷ es) (f ∷ fs) l c) (sym p.octets) (cons_ahead e f es fs p.front p.back q.back c same.1 h (q.octets ∙ ap (λ l. l ++ q.back) (sym same.0))))
      | inr h ↦ inr (subst (λ l. Ahead (f ∷ fs) (e ∷ es) l b) (sym q.octets) (cons_ahead f e fs es q.front q.back p.back b (sym same.1) h (p.octets ∙ ap (λ l. l ++ p.back) same.0)))
    ]

-- ---- a list spells one list of events

pub event_some : (e : Event) (b : List ℕ) → SpellsEvent e b → 0 < length b
event_some e b p = let h = headed e b p in omega (arith, head_some h.head h.front h.headed, ap length h.octets, length-append h.front h.contents)

pub events_some : (es : List Event) (b : List ℕ) → SpellsEvents es b → length es ≤ length b
events_some [] b p = omega arith
events_some (e ∷ es) b p = omega (arith, event_some e p.front p.first, events_some es p.back p.second, ap length p.octets, length-append p.front p.back)

nothing_more : (es : List Event) → SpellsEvents es [] → es ≡ []
nothing_more [] p = refl
nothing_more (e ∷ es) p = absurd (omega (arith, events_some (e ∷ es) [] p))

ahead_once : (es fs : List Event) (b : List ℕ) → Ahead es fs b b → es ≡ fs
ahead_once es fs b h =
    let none : h.more_octets ≡ [] = append_cancel_left b h.more_octets [] (sym h.octets_are ∙ sym (append-nil b)) in
    let no_events = nothing_more h.more_events (subst (SpellsEvents h.more_events) none h.spelled) in
    sym (h.events_are ∙ ap (λ l. es ++ l) no_events ∙ append-nil es)

pub events_once : (es fs : List Event) (b : List ℕ) → SpellsEvents es b → SpellsEvents fs b → es ≡ fs
events_once es fs b p q =
    elim (aligned es fs b b [] [] p q refl) [
      | inl h ↦ ahead_once es fs b h
      | inr h ↦ sym (ahead_once fs es b h)
    ]
