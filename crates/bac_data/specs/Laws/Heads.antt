-- An event shows where it ends: no spelling of one begins another one, nor spells two.
use Rattle.std.proofs.Common.{◌≡◌, ℕ, ◌<◌, Bool, List, [], ◌∷◌, ◌++◌, length, refl, sym, ◌∙◌, ap, subst, inl, inr, arith, append_assoc, append-nil, length-append}
use Rattle.std.proofs.lemmas.List.{append_cancel_left}
use Rattle.bac_tag.specs.declared.heads.TagHead.{TagHead}
use Rattle.bac_tag.specs.declared.heads.TagHead.TheVariants.{App, AppBool, Ctx, Open, Close}
use Rattle.bac_tag.specs.Heads.{Heads}
use Rattle.bac_tag.specs.Laws.Heads.{heads_end}
use Rattle.bac_tag.specs.Spelling.{EndsItself}
use Rattle.bac_value.specs.declared.types.boolean_value.Boolean.{Boolean as BooleanValue}
use Rattle.bac_value.specs.declared.prim.PrimitiveValue.TheVariants.{Boolean}
use Rattle.bac_value.specs.PrimContents.{application_number, PrimContents}
use Rattle.bac_value.specs.Laws.Prim.{prim_once}
use Rattle.bac_data.specs.Under.{Under}
use Rattle.bac_data.specs.Events.{Event, application, contextual, opening, closing, SpellsEvent}

pub record Headed (e : Event) (b : List ℕ) : Type 0 where
  pub head : TagHead
  pub front : List ℕ
  pub contents : List ℕ
  pub headed : Heads head front
  pub under : Under head e contents
  pub octets : b ≡ front ++ contents

pub headed : (e : Event) (b : List ℕ) → SpellsEvent e b → Headed e b
headed (application prim) b (inl p) = record { head = AppBool p.value.0; front = b; contents = []; headed = p.headed; under = (p.value, ap application p.is, refl, refl); octets = sym (append-nil b) }
headed (application prim) b (inr p) = record { head = App (application_number prim) (length p.contents); front = p.head; contents = p.contents; headed = p.headed; under = (prim, refl, refl, p.spelled, refl); octets = p.octets }
headed (contextual number octets) b p = record { head = Ctx number (length octets); front = p.head; contents = octets; headed = p.headed; under = (refl, p.within, refl); octets = p.joined }
headed (opening number) b p = record { head = Open number; front = b; contents = []; headed = p; under = (refl, refl); octets = sym (append-nil b) }
headed (closing number) b p = record { head = Close number; front = b; contents = []; headed = p; under = (refl, refl); octets = sym (append-nil b) }

pub event_headed : (head : TagHead) (e : Event) (front contents : List ℕ) → Heads head front → Under head e contents → SpellsEvent e (front ++ contents)
event_headed (App number len) e front contents h (prim, i, n, p, l) =
    subst (λ e. SpellsEvent e (front ++ contents)) (sym i)
    (inr (record { head = front; contents = contents; headed = rw (n, l) h; spelled = p; octets = refl }))
event_headed (AppBool bit) e front contents h (value, i, v, c) =
    subst (λ e. SpellsEvent e (front ++ contents)) (sym i)
    (inl (record { value = value; is = refl; headed = rw (v, c, append-nil front) h }))
event_headed (Ctx number len) e front contents h (i, o, l) =
    subst (λ e. SpellsEvent e (front ++ contents)) (sym i) (record { head = front; headed = rw l h; within = o; joined = refl })
event_headed (Open number) e front contents h (i, c) = rw (i, c, append-nil front) h
event_headed (Close number) e front contents h (i, c) = rw (i, c, append-nil front) h

same_length : (c d x y : List ℕ) → length c ≡ length d → c ++ x ≡ d ++ y → c ≡ d
same_length [] [] x y n e = refl
same_length [] (b ∷ d) x y n e = absurd (omega arith)
same_length (a ∷ c) [] x y n e = absurd (omega arith)
same_length (a ∷ c) (b ∷ d) x y n e =
    let h : a ≡ b = cc in
    let t : c ++ x ≡ d ++ y = cc in
    let m : length c ≡ length d = omega arith in
    let r : c ≡ d = same_length c d x y m t in cc

-- under one head
under_one : (head : TagHead) (e f : Event) (c d x y : List ℕ) → Under head e c → Under head f d → c ++ x ≡ d ++ y → (c ≡ d) × (e ≡ f)
under_one (App number len) e f c d x y (p, i, n, s, l) (q, j, m, t, k) w =
    let same : c ≡ d = same_length c d x y (l ∙ sym k) w in
    let t' : PrimContents q c = subst (PrimContents q) (sym same) t in
    (same, i ∙ ap application (prim_once p q c (n ∙ sym m) s t') ∙ sym j)
under_one (AppBool bit) e f c d x y (a, i, n, s) (b, j, m, t) w =
    (s ∙ sym t, i ∙ ap (λ (bit : Bool). let v : BooleanValue = record { 0 = bit } in application (Boolean v)) (n ∙ sym m) ∙ sym j)
under_one (Ctx number len) e f c d x y (i, o, l) (j, u, k) w =
    let same : c ≡ d = same_length c d x y (l ∙ sym k) w in (same, i ∙ ap (contextual number) same ∙ sym j)
under_one (Open number) e f c d x y (i, s) (j, t) w = (s ∙ sym t, i ∙ sym j)
under_one (Close number) e f c d x y (i, s) (j, t) w = (s ∙ sym t, i ∙ sym j)

pub event_ends : EndsItself SpellsEvent
event_ends e f b c x y p q w =
    let l = headed e b p in
    let r = headed f c q in
    let split : l.front ++ (l.contents ++ x) ≡ r.front ++ (r.contents ++ y)
    = sym (append_assoc l.front l.contents x) ∙ ap (λ z. z ++ x) (sym l.octets) ∙ w ∙ ap (λ z. z ++ y) r.octets ∙ append_assoc r.front r.contents y in
    let heads = heads_end l.head r.head l.front r.front (l.contents ++ x) (r.contents ++ y) l.headed r.headed split in
    let behind : l.contents ++ x ≡ r.contents ++ y = append_cancel_left l.front (l.contents ++ x) (r.contents ++ y) (split ∙ ap (λ z. z ++ (r.contents ++ y)) (sym heads.0)) in
    let under : Under l.head f r.contents = subst (λ h. Under h f r.contents) (sym heads.1) r.under in
    let both = under_one l.head e f l.contents r.contents x y l.under under behind in
    (l.octets ∙ ap (λ z. z ++ l.contents) heads.0 ∙ ap (λ z. r.front ++ z) both.0 ∙ sym r.octets, both.1)

-- a head has an octet
pub head_some : (head : TagHead) (b : List ℕ) → Heads head b → 0 < length b
head_some head b h = omega (arith, ap length h.octets, length-append h.front h.back, ap length h.opening.octets)
