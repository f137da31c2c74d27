-- What may go on, behind events that are begun.
use Rattle.std.proofs.Common.{◌≡◌, ℕ, ◌≤◌, List, [], ◌∷◌, ◌++◌, map, refl, sym, ◌∙◌, ap, subst, ◌⊎◌, inl, inr, append_assoc, append-nil}
use Rattle.bac_tag.specs.declared.heads.TagHead.TheVariants.{Close}
use Rattle.bac_tag.specs.Spelling.{IsSpelling, IsViable, NoFront}
use Rattle.bac_tag.specs.Heads.{Heads}
use Rattle.bac_tag.proofs.WritingLemmas.{some_least}
use Rattle.bac_data.specs.Spells.{SpellsOpen}
use Rattle.bac_data.specs.Events.{Event, application, contextual, opening, closing, events, Opens, NextIn, SpellsEvent, SpellsEvents, SpellsNext, value_of_events}
use Rattle.bac_data.proofs.EventLemmas.{joins, one_event, SpellsEvents-append, spells_whole}
use Rattle.bac_data.proofs.OpenLemmas.{two_cuts, Opens-append, what_follows}
use Rattle.bac_data.proofs.BalancedLemmas.{events-value_of_events}

-- what may stand next steps, or closes the value
pub next_steps : (limit n : ℕ) (s : List ℕ) (e : Event) → NextIn limit n s e → ((t : List ℕ) × Opens limit s (e ∷ []) t) ⊎ ((s ≡ []) × (e ≡ closing n))
next_steps limit n s (application prim) h = inl (s, refl)
next_steps limit n s (contextual m q) h = inl (s, refl)
next_steps limit n s (opening m) h = inl (m ∷ s, (h, refl))
next_steps limit n [] (closing m) h = inr (refl, ap closing h)
next_steps limit n (k ∷ s) (closing m) h = inl (s, (s, ap (λ j. j ∷ s) (sym h), refl))

-- Not viable, where the rest is not viable for an event that may stand next, and begins with none.
pub stuck : (limit n : ℕ) (es : List Event) (s p d : List ℕ) → Opens limit [] es s → SpellsEvents (opening n ∷ es) p → (IsViable (SpellsNext limit n s) d → ⊥)
    → NoFront (SpellsNext limit n s) d → IsViable (SpellsOpen limit n) (p ++ d) → ⊥
stuck limit n es s p d o q none front v =
    let x = v.rest in
    let f = what_follows limit n v.value es s p (d ++ x) ((p ++ d) ++ x) [] o q v.spelled (sym (append_assoc p d x) ∙ sym (append-nil ((p ++ d) ++ x))) in
    elim (two_cuts d x f.front f.rest f.octets) [
      | inl h ↦ front f.event f.front h.middle h.first (record { next = f.next; spelled = f.spelled })
      | inr h ↦ none (record { value = f.event; rest = h.middle; spelled = record { next = f.next; spelled = subst (SpellsEvent f.event) h.first f.spelled } })
    ]

-- every open group can be closed
abbrev closings : List ℕ → List Event
closings s = map closing s

closings-opens : (limit : ℕ) (s : List ℕ) → Opens limit s (closings s) []
closings-opens limit [] = refl
closings-opens limit (k ∷ s) = (s, refl, closings-opens limit s)

abbrev Closable : List ℕ → Type 0
Closable [] = Unit {0}
Closable (k ∷ s) = (k ≤ 254) × Closable s

close_of : (k : ℕ) → k ≤ 254 → (b : List ℕ) × Heads (Close k) b
close_of k h = let l = some_least (Close k) h tt in (l.0, l.1.member)

closings-spelled : (s : List ℕ) → Closable s → (b : List ℕ) × SpellsEvents (closings s) b
closings-spelled [] h = ([], refl)
closings-spelled (k ∷ s) (l, h) =
    let (b, p) = closings-spelled s h in
    let (c, q) = close_of k l in (c ++ b, joins c b q p refl)

closable : (limit : ℕ) (es : List Event) (s t p : List ℕ) → Opens limit s es t → SpellsEvents es p → Closable s → Closable t
closable limit [] s t p o q h = subst Closable o h
closable limit (application prim ∷ es) s t p o q h = closable limit es s t q.back o q.second h
closable limit (contextual n octets ∷ es) s t p o q h = closable limit es s t q.back o q.second h
closable limit (opening n ∷ es) s t p (l, o) q h = closable limit es (n ∷ s) t q.back o q.second (q.first.valid, h)
closable limit (closing n ∷ es) s t p (r, e, o) q h = let h' : Closable (n ∷ r) = subst Closable e h in closable limit es r t q.back o q.second h'.1

-- events that close what is open complete a value
completes : (limit n : ℕ) (es fs : List Event) (p c : List ℕ) → Opens limit [] (es ++ fs) [] → SpellsEvents (opening n ∷ es) p → SpellsEvents (fs ++ closing n ∷ []) c → IsSpelling (SpellsOpen limit n) (p ++ c)
completes limit n es fs p c o q r =
    let (e, d) = events-value_of_events limit (es ++ fs) o in
    let inside : events (value_of_events (es ++ fs)) ++ closing n ∷ [] ≡ es ++ (fs ++ closing n ∷ []) = ap (λ l. l ++ closing n ∷ []) e ∙ append_assoc es fs (closing n ∷ []) in (
      value_of_events (es ++ fs),
      spells_whole limit n (value_of_events (es ++ fs)) (p ++ c) d
          (subst (λ l. SpellsEvents (opening n ∷ l) (p ++ c)) (sym inside) (SpellsEvents-append (opening n ∷ es) (fs ++ closing n ∷ []) p c q r)),
    )

viable_by : (limit n : ℕ) (b x : List ℕ) → IsSpelling (SpellsOpen limit n) (b ++ x) → IsViable (SpellsOpen limit n) b
viable_by limit n b x (v, p) = record { value = v; rest = x; spelled = p }

-- Viable, where the rest is viable for an event that may stand next.
pub goes_on : (limit n : ℕ) (es : List Event) (s p d : List ℕ) → Opens limit [] es s → SpellsEvents (opening n ∷ es) p → IsViable (SpellsNext limit n s) d → IsViable (SpellsOpen limit n) (p ++ d)
goes_on limit n es s p d o q v =
    let x = v.rest in
    let e = v.value in
    let se : SpellsEvent e (d ++ x) = v.spelled.spelled in
    let (last, closed) = close_of n q.first.valid in
    elim (next_steps limit n s e v.spelled.next) [
      | inl (t, step) ↦
          let h : Closable t = closable limit (e ∷ []) s t (d ++ x) step (one_event e (d ++ x) se) (closable limit es [] s q.back o q.second tt) in
          let (c, sc) = closings-spelled t h in
          let all : Opens limit [] (es ++ e ∷ closings t) [] = Opens-append limit es (e ∷ closings t) [] s [] o (Opens-append limit (e ∷ []) (closings t) s t [] step (closings-opens limit t)) in
          viable_by limit n (p ++ d) (x ++ (c ++ last)) (subst (IsSpelling (SpellsOpen limit n)) (sym (append_assoc p d (x ++ (c ++ last)) ∙ ap (λ z. p ++ z) (sym (append_assoc d x (c ++ last)))))
          (completes limit n es (e ∷ closings t) p ((d ++ x) ++ (c ++ last)) all q
          (joins (d ++ x) (c ++ last) se (SpellsEvents-append (closings t) (closing n ∷ []) c last sc (one_event (closing n) last closed)) refl)))
      | inr (empty, i) ↦
          viable_by limit n (p ++ d) x (subst (IsSpelling (SpellsOpen limit n)) (sym (append_assoc p d x))
          (completes limit n es [] p (d ++ x) (subst (λ z. Opens limit [] z []) (sym (append-nil es)) (subst (Opens limit [] es) empty o)) q
          (subst (λ f. SpellsEvents (f ∷ []) (d ++ x)) i (one_event e (d ++ x) se))))
    ]
