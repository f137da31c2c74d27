-- The events of a value are spelled as the value is.
use Rattle.std.proofs.Common.{◌≡◌, ℕ, ◌≤◌, List, [], ◌∷◌, ◌++◌, refl, sym, ◌∙◌, ap, subst, append_assoc, append-nil}
use Rattle.bac_tag.specs.Spelling.{Joins}
use Rattle.bac_data.specs.OpenValue.{Element, primitive, context, group, Elements, none, more, depth}
use Rattle.bac_data.specs.Spells.{Spells, SpellsAll, SpellsOpen}
use Rattle.bac_data.specs.Events.{Event, application, contextual, opening, closing, element_events, events, SpellsEvent, SpellsEvents}

pub joins : {First Second : List ℕ → Type 0} {b : List ℕ} (c d : List ℕ) → First c → Second d → b ≡ c ++ d → Joins First Second b
joins c d p q e = record { front = c; back = d; first = p; second = q; octets = e }

pub SpellsEvents-append : (es fs : List Event) (c d : List ℕ) → SpellsEvents es c → SpellsEvents fs d → SpellsEvents (es ++ fs) (c ++ d)
SpellsEvents-append [] fs c d p q = subst (λ l. SpellsEvents fs (l ++ d)) (sym p) q
SpellsEvents-append (e ∷ es) fs c d p q =
    joins p.front (p.back ++ d) p.first (SpellsEvents-append es fs p.back d p.second q) (ap (λ l. l ++ d) p.octets ∙ append_assoc p.front p.back d)

pub SpellsEvents-split : (es fs : List Event) (b : List ℕ) → SpellsEvents (es ++ fs) b → Joins (SpellsEvents es) (SpellsEvents fs) b
SpellsEvents-split [] fs b p = joins [] b refl p refl
SpellsEvents-split (e ∷ es) fs b p =
    let rest = SpellsEvents-split es fs p.back p.second in
    joins (p.front ++ rest.front) rest.back (joins p.front rest.front p.first rest.first refl) rest.second
    (p.octets ∙ ap (λ l. p.front ++ l) rest.octets ∙ sym (append_assoc p.front rest.front rest.back))

-- one event alone
pub one_event : (e : Event) (b : List ℕ) → SpellsEvent e b → SpellsEvents (e ∷ []) b
one_event e b p = joins b [] p refl (sym (append-nil b))

pub event_alone : (e : Event) (b : List ℕ) → SpellsEvents (e ∷ []) b → SpellsEvent e b
event_alone e b p = subst (SpellsEvent e) (sym (p.octets ∙ ap (λ l. p.front ++ l) p.second ∙ append-nil p.front)) p.first

mutual
  pub element_spelled : (e : Element) (b : List ℕ) → Spells e b → SpellsEvents (element_events e) b
  element_spelled (primitive prim) b s = one_event (application prim) b s
  element_spelled (context number octets) b s = one_event (contextual number octets) b s
  element_spelled (group number v) b s =
      let inner = s.second in
      joins s.front s.back s.first
      (subst (SpellsEvents (events v ++ closing number ∷ [])) (sym inner.octets)
      (SpellsEvents-append (events v) (closing number ∷ []) inner.front inner.back (events_spelled v inner.front inner.first) (one_event (closing number) inner.back inner.second)))
      s.octets

  pub events_spelled : (v : Elements) (b : List ℕ) → SpellsAll v b → SpellsEvents (events v) b
  events_spelled none b p = p
  events_spelled (more e v) b p =
      subst (SpellsEvents (element_events e ++ events v)) (sym p.octets) (SpellsEvents-append (element_events e) (events v) p.front p.back (element_spelled e p.front p.first) (events_spelled v p.back p.second))

mutual
  pub spelled_element : (e : Element) (b : List ℕ) → SpellsEvents (element_events e) b → Spells e b
  spelled_element (primitive prim) b s = event_alone (application prim) b s
  spelled_element (context number octets) b s = event_alone (contextual number octets) b s
  spelled_element (group number v) b s =
      let inner = SpellsEvents-split (events v) (closing number ∷ []) s.back s.second in
      joins s.front s.back s.first (joins inner.front inner.back (value_spelled v inner.front inner.first) (event_alone (closing number) inner.back inner.second) inner.octets) s.octets

  pub value_spelled : (v : Elements) (b : List ℕ) → SpellsEvents (events v) b → SpellsAll v b
  value_spelled none b p = p
  value_spelled (more e v) b p =
      let parts = SpellsEvents-split (element_events e) (events v) b p in
      joins parts.front parts.back (spelled_element e parts.front parts.first) (value_spelled v parts.back parts.second) parts.octets

-- ---- the events of the tags and between them

abbrev pub whole : ℕ → Elements → List Event
whole number v = opening number ∷ (events v ++ closing number ∷ [])

pub whole_spelled : (limit number : ℕ) (v : Elements) (b : List ℕ) → SpellsOpen limit number v b → SpellsEvents (whole number v) b
whole_spelled limit number v b p =
    let outer = p.enclosed in
    let inner = outer.second in
    joins outer.front outer.back outer.first
    (subst (SpellsEvents (events v ++ closing number ∷ [])) (sym inner.octets)
    (SpellsEvents-append (events v) (closing number ∷ []) inner.front inner.back (events_spelled v inner.front inner.first) (one_event (closing number) inner.back inner.second)))
    outer.octets

pub spells_whole : (limit number : ℕ) (v : Elements) (b : List ℕ) → depth v ≤ limit → SpellsEvents (whole number v) b → SpellsOpen limit number v b
spells_whole limit number v b h p =
    let inner = SpellsEvents-split (events v) (closing number ∷ []) p.back p.second in
    record {
      enclosed = joins p.front p.back p.first (joins inner.front inner.back (value_spelled v inner.front inner.first) (event_alone (closing number) inner.back inner.second) inner.octets) p.octets;
      nested = h;
    }
