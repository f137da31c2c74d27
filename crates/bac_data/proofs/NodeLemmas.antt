-- Nodes, step by step.
use Rattle.std.proofs.Common.{◌≡◌, ◌≢◌, ℕ, ◌+◌, ◌-◌, ◌<◌, ◌≤◌, suc, zero, Option, None, Some, List, [], ◌∷◌, ◌++◌, ◌⊎◌, reverse, set, get_or, take, drop, length, refl, sym, ◌∙◌, ap, subst, inl, inr, arith, append_assoc, append-nil, length-append, length-drop}
use Rattle.std.specs.Prelude.{slice_get}
use Rattle.std.specs.List.{All}
use Rattle.std.proofs.lemmas.List.{drop-append-le, take-append-le, drop_more, get_or-map, get_or_at, drop_at, take_all, map_push, map-set, set_at, length-map, length-reverse, reverse-append, reverse-reverse}
use Rattle.std.proofs.lemmas.List.Elements.{All-head, All-tail, All-push, All-set, All-weaker}
use Rattle.std.specs.Option.{option_map}
use Rattle.std.proofs.lemmas.Option.{same_Some, none-some, slice_get-map, slice_get_within, get_or_from_slice_get}
use Rattle.bac_tag.specs.Spelling.{IsLeast}
use Rattle.bac_tag.specs.Laws.Spelling.{IsLeast-one}
use Rattle.bac_tag.proofs.WritingLemmas.{some_least}
use Rattle.bac_tag.specs.declared.heads.TagHead.TheVariants.{App}
use Rattle.bac_value.specs.declared.prim.PrimitiveValue.{PrimitiveValue}
use Rattle.bac_value.specs.PrimContents.{application_number, PrimContents, IsWrittenOf, prim_written}
use Rattle.bac_value.specs.Laws.Prim.{prim_limit, prim_only_values, prim_written_contents}
use Rattle.bac_value.specs.PrimOfContents.{prim_of_contents}
use Rattle.bac_value.specs.Laws.PrimOfContents.{prim_of_contents_is}
use Rattle.bac_data.specs.declared.nodes.Node.{Node}
use Rattle.bac_data.specs.declared.nodes.Node.TheVariants as node
use Rattle.bac_data.specs.OpenValue.{Element, primitive, context, group, Elements, none, more}
use Rattle.bac_data.specs.Spells.{SpellsPrimitive, SpellsContext}
use Rattle.bac_data.specs.Events.{Event, application, contextual, opening, closing, element_events, events, Opens, SpellsEvent}
use Rattle.bac_data.specs.NodeEvents.{octets_at, node_event, node_events, Lies, IsGroup, AreBegun, Among, AreNodes, NodeFor, MayList}
use Rattle.bac_data.proofs.EventLeastLemmas.{least_contents}

-- ---- behind what octets are appended, each node stands for what it did

range_kept : (start len : ℕ) (octets added : List ℕ) → start + len ≤ length octets → octets_at start len (octets ++ added) ≡ octets_at start len octets
range_kept start len octets added h =
    ap (take len) (drop-append-le start octets added (omega arith)) ∙ take-append-le len (drop start octets) added (omega (arith, length-drop start octets))

event_kept : (octets added : List ℕ) (n : Node) → Lies octets n → node_event (octets ++ added) n ≡ node_event octets n
event_kept octets added (node.Boolean bit) h = refl
event_kept octets added (node.Application number len start) h = ap (λ (l : List ℕ). application (prim_of_contents number l)) (range_kept start len octets added h.0)
event_kept octets added (node.Context number len start) h = ap (contextual number) (range_kept start len octets added h)
event_kept octets added (node.Open number end) h = refl
event_kept octets added (node.Close number) h = refl

lies_kept : (octets added : List ℕ) (n : Node) → Lies octets n → Lies (octets ++ added) n
lies_kept octets added (node.Boolean bit) h = tt
lies_kept octets added (node.Application number len start) h = (omega (arith, h.0, length-append octets added), h.1, subst (IsWrittenOf number) (sym (range_kept start len octets added h.0)) h.2)
lies_kept octets added (node.Context number len start) h = omega (arith, h, length-append octets added)
lies_kept octets added (node.Open number end) h = h
lies_kept octets added (node.Close number) h = tt

events_kept : (octets added : List ℕ) (nodes : List Node) → All (Lies octets) nodes → node_events (octets ++ added) nodes ≡ node_events octets nodes
events_kept octets added [] h = refl
events_kept octets added (n ∷ nodes) h =
    ap (λ (e : Event). e ∷ node_events (octets ++ added) nodes) (event_kept octets added n (All-head (Lies octets) n nodes h)) ∙ ap (λ (l : List Event). node_event octets n ∷ l) (events_kept octets added nodes (All-tail (Lies octets) n nodes h))

-- ---- an element behind others

behind : Elements → Element → Elements
behind none x = more x none
behind (more y v) x = more y (behind v x)

events-behind : (v : Elements) (x : Element) → events (behind v x) ≡ events v ++ element_events x
unfolding behind
events-behind none x = append-nil (element_events x)
events-behind (more y v) x = ap (λ (l : List Event). element_events y ++ l) (events-behind v x) ∙ sym (append_assoc (element_events y) (events v) (element_events x))

-- ---- open groups

-- an element inside the innermost group
begun_more : (es : List Event) (is ns : List ℕ) (x : Element) → AreBegun es is ns → AreBegun (es ++ element_events x) is ns
begun_more es [] [] x (inner, e) = (behind inner x, ap (λ (l : List Event). l ++ element_events x) e ∙ sym (events-behind inner x))
begun_more es (i ∷ is) (n ∷ ns) x (front, inner, e, l, rest) = (
  front,
  behind inner x,
  ap (λ (l : List Event). l ++ element_events x) e ∙ append_assoc front (opening n ∷ events inner) (element_events x) ∙ ap (λ (l : List Event). front ++ opening n ∷ l) (sym (events-behind inner x)),
  l,
  rest,
)
begun_more es [] (n ∷ ns) x h = absurd h
begun_more es (i ∷ is) [] x h = absurd h

begun_open : (es : List Event) (is ns : List ℕ) (n : ℕ) → AreBegun es is ns → AreBegun (es ++ opening n ∷ []) (length es ∷ is) (n ∷ ns)
begun_open es is ns n h = (es, none, refl, refl, h)

begun_close : (es : List Event) (i : ℕ) (is : List ℕ) (n : ℕ) (ns : List ℕ) → AreBegun es (i ∷ is) (n ∷ ns) → AreBegun (es ++ closing n ∷ []) is ns
begun_close es i is n ns (front, inner, e, l, rest) =
    subst (λ (fs : List Event). AreBegun fs is ns) (sym (ap (λ (l : List Event). l ++ closing n ∷ []) e ∙ append_assoc front (opening n ∷ events inner) (closing n ∷ []))) (begun_more front is ns (group n inner) rest)

begun_group : (es : List Event) (i : ℕ) (is : List ℕ) (n : ℕ) (ns : List ℕ) → AreBegun es (i ∷ is) (n ∷ ns) → IsGroup (es ++ closing n ∷ []) i n (length es)
begun_group es i is n ns (front, inner, e, l, rest) = record {
  front = front;
  inner = inner;
  rest = [];
  events_are = ap (λ (l : List Event). l ++ closing n ∷ []) e ∙ append_assoc front (opening n ∷ events inner) (closing n ∷ []);
  begins = l;
  ends = omega (arith, ap length e, length-append front (opening n ∷ events inner), l);
}

pub begun_count : (es : List Event) (is ns : List ℕ) → AreBegun es is ns → length is ≡ length ns
begun_count es [] [] h = refl
begun_count es (i ∷ is) (n ∷ ns) (front, inner, e, l, rest) = ap suc (begun_count front is ns rest)
begun_count es [] (n ∷ ns) h = absurd h
begun_count es (i ∷ is) [] h = absurd h

-- the innermost one begins where its index says
pub begun_at : (es : List Event) (i : ℕ) (is : List ℕ) (n : ℕ) (ns : List ℕ) → AreBegun es (i ∷ is) (n ∷ ns) → (front rest : List Event) × (es ≡ front ++ opening n ∷ rest) × (length front ≡ i)
begun_at es i is n ns (front, inner, e, l, rest) = (front, events inner, e, l)

group_kept : (es : List Event) (e : Event) (i n end : ℕ) → IsGroup es i n end → IsGroup (es ++ e ∷ []) i n end
group_kept es e i n end g = record {
  front = g.front;
  inner = g.inner;
  rest = g.rest ++ e ∷ [];
  events_are =
      ap (λ (l : List Event). l ++ e ∷ []) g.events_are ∙ append_assoc g.front (opening n ∷ (events g.inner ++ closing n ∷ g.rest)) (e ∷ [])
      ∙ ap (λ (l : List Event). g.front ++ opening n ∷ l) (append_assoc (events g.inner) (closing n ∷ g.rest) (e ∷ []));
  begins = g.begins;
  ends = g.ends;
}

-- ---- indices

among_more : (i g : ℕ) (groups : List ℕ) → Among i groups → Among i (groups ++ g ∷ [])
among_more i g [] h = absurd h
among_more i g (k ∷ groups) (inl e) = inl e
among_more i g (k ∷ groups) (inr h) = inr (among_more i g groups h)

among_last : (g : ℕ) (groups : List ℕ) → Among g (groups ++ g ∷ [])
among_last g [] = inl refl
among_last g (k ∷ groups) = inr (among_last g groups)

among_others : (i g : ℕ) (groups : List ℕ) → Among i (groups ++ g ∷ []) → (i ≡ g → ⊥) → Among i groups
among_others i g [] (inl e) other = other e
among_others i g [] (inr h) other = h
among_others i g (k ∷ groups) (inl e) other = inl e
among_others i g (k ∷ groups) (inr h) other = inr (among_others i g groups h other)

-- an element of a list with one more behind it
get_last : {A : Type 0} (xs : List A) (x : A) (i : ℕ) (y : A) → slice_get (xs ++ x ∷ []) i ≡ Some y → (slice_get xs i ≡ Some y) ⊎ ((i ≡ length xs) × (x ≡ y))
get_last [] x zero y e = inr (refl, same_Some x y e)
get_last [] x (suc i) y e = absurd (none-some y e)
get_last (z ∷ xs) x zero y e = inl e
get_last (z ∷ xs) x (suc i) y e =
    elim (get_last xs x i y e) [
      | inl h ↦ inl h
      | inr h ↦ inr (ap suc h.0, h.1)
    ]

-- what stands behind so many others
pub slice_get_at : {A : Type 0} (xs : List A) (y : A) (ys : List A) (i : ℕ) → length xs ≡ i → slice_get (xs ++ y ∷ ys) i ≡ Some y
slice_get_at [] y ys zero e = refl
slice_get_at [] y ys (suc i) e = absurd (omega (arith, e))
slice_get_at (x ∷ xs) y ys zero e = absurd (omega (arith, e))
slice_get_at (x ∷ xs) y ys (suc i) e = slice_get_at xs y ys i (omega (arith, e))

-- an element of a list in which one was written
get_set : {A : Type 0} (xs : List A) (j : ℕ) (x : A) (i : ℕ) (y : A) → slice_get (set xs j x) i ≡ Some y → ((i ≡ j) × (x ≡ y)) ⊎ ((i ≡ j → ⊥) × (slice_get xs i ≡ Some y))
get_set [] j x i y e = absurd (none-some y e)
get_set (z ∷ xs) zero x zero y e = inl (refl, same_Some x y e)
get_set (z ∷ xs) zero x (suc i) y e = inr ((λ h. omega (arith, h)), e)
get_set (z ∷ xs) (suc j) x zero y e = inr ((λ h. omega (arith, h)), e)
get_set (z ∷ xs) (suc j) x (suc i) y e =
    elim (get_set xs j x i y e) [
      | inl h ↦ inl (ap suc h.0, h.1)
      | inr h ↦ inr ((λ k. h.0 (omega (arith, k))), h.1)
    ]

-- ---- the node of a primitive stands for it

-- what stands at the end
at_end : (octets added head contents : List ℕ) (start len end : ℕ) → added ≡ head ++ contents → len ≡ length contents → start + len ≡ end → end ≡ length octets + length added
    → (octets_at start len (octets ++ added) ≡ contents) × (start + len ≤ length (octets ++ added))
at_end octets added head contents start len end m l s e =
    let all : octets ++ added ≡ (octets ++ head) ++ contents = ap (λ (b : List ℕ). octets ++ b) m ∙ sym (append_assoc octets head contents) in
    let place : length (octets ++ head) ≡ start = omega (arith, length-append octets head, ap length m, length-append head contents) in (
      ap (octets_at start len) all ∙ ap (take len) (drop_at (octets ++ head) contents start place) ∙ take_all len contents (omega (arith, l)),
      omega (arith, length-append octets added),
    )

pub record HasWritten (prim : PrimitiveValue) (added : List ℕ) : Type 0 where
  pub head : List ℕ
  pub octets_are : added ≡ head ++ prim_written prim
  pub spelled : PrimContents prim (prim_written prim)
  pub fits : application_number prim ≤ 12

pub least_written : (prim : PrimitiveValue) (added : List ℕ) → application_number prim ≢ 1 → IsLeast (SpellsPrimitive prim) added → HasWritten prim added
least_written prim added other p =
    elim p.member [
      | inl q ↦ absurd (other (ap application_number q.is))
      | inr q ↦
          let written = prim_written_contents prim (prim_only_values prim q.contents q.spelled) in
          let l = some_least (App (application_number prim) (length (prim_written prim))) q.headed.valid (omega (arith, prim_limit prim (prim_written prim) written)) in
          record {
            head = l.0;
            octets_are = IsLeast-one (SpellsPrimitive prim) added (l.0 ++ prim_written prim) p (least_contents prim (prim_written prim) l.0 other written refl l.1);
            spelled = written;
            fits = q.headed.valid.0;
          }
    ]

node_fits : (e : Event) (octets added : List ℕ) (end : ℕ) (n : Node) → IsLeast (SpellsEvent e) added → end ≡ length octets + length added → NodeFor e end n → (node_event (octets ++ added) n ≡ e) × Lies (octets ++ added) n
node_fits e octets added end (node.Boolean bit) p i f = (sym f, tt)
node_fits e octets added end (node.Application number len start) p i (prim, is, same, other, long, sum) =
    let w = least_written prim added (λ one. other (sym same ∙ one)) (subst (λ (e : Event). IsLeast (SpellsEvent e) added) is p) in
    let there = at_end octets added w.head (prim_written prim) start len end w.octets_are long sum i in (
      ap application (ap (prim_of_contents number) there.0 ∙ prim_of_contents_is number prim (prim_written prim) (same, w.spelled)) ∙ sym is,
      (there.1, omega (arith, w.fits, same), subst (IsWrittenOf number) (sym there.0) (record { value = prim; spelled = (same, w.spelled); is = refl })),
    )
node_fits e octets added end (node.Context number len start) p i (contents, is, long, sum) =
    let s = subst (λ (e : Event). IsLeast (SpellsEvent e) added) is p in
    let there = at_end octets added s.member.head contents start len end s.member.joined long sum i in
    (ap (contextual number) there.0 ∙ sym is, there.1)
node_fits e octets added end (node.Open number last) p i f = absurd f
node_fits e octets added end (node.Close number) p i f = absurd f

-- the element that it stands for
alone : (e : Event) (end : ℕ) (n : Node) → NodeFor e end n → (x : Element) × (e ∷ [] ≡ element_events x)
alone e end (node.Boolean bit) f = (primitive _, ap (λ (e : Event). e ∷ []) f)
alone e end (node.Application number len start) (prim, is, same, other, long, sum) = (primitive prim, ap (λ (e : Event). e ∷ []) is)
alone e end (node.Context number len start) (octets, is, long, sum) = (context number octets, ap (λ (e : Event). e ∷ []) is)
alone e end (node.Open number last) f = absurd f
alone e end (node.Close number) f = absurd f

-- ---- one node more

-- it is not an opening, or the group that it opens is open
ended_more : (es : List Event) (e : Event) (nodes : List Node) (n : Node) (groups groups' : List ℕ)
    → ((i number end : ℕ) → slice_get nodes i ≡ Some (node.Open number end) → Among i groups ⊎ IsGroup es i number end) → ((i : ℕ) → Among i groups → Among i groups')
    → ((number end : ℕ) → n ≡ node.Open number end → Among (length nodes) groups') → (i number end : ℕ) → slice_get (nodes ++ n ∷ []) i ≡ Some (node.Open number end)
    → Among i groups' ⊎ IsGroup (es ++ e ∷ []) i number end
ended_more es e nodes n groups groups' old stays last i number end is =
    elim (get_last nodes n i (node.Open number end) is) [
      | inl h ↦
          elim (old i number end h) [
            | inl a ↦ inl (stays i a)
            | inr g ↦ inr (group_kept es e i number end g)
          ]
      | inr h ↦ inl (subst (λ (k : ℕ). Among k groups') (sym h.0) (last number end h.1))
    ]

no_opening : (e : Event) (end : ℕ) (n : Node) → NodeFor e end n → (number last : ℕ) → n ≡ node.Open number last → ⊥
no_opening e end (node.Boolean bit) f number last i = cc
no_opening e end (node.Application m len start) f number last i = cc
no_opening e end (node.Context m len start) f number last i = cc
no_opening e end (node.Open m c) f number last i = f
no_opening e end (node.Close m) f number last i = f

-- a primitive leaves the groups as they are
pub kept_groups : (e : Event) (end : ℕ) (n : Node) (before after : List ℕ) → NodeFor e end n → Opens 32 before (e ∷ []) after → before ≡ after
kept_groups (application prim) end n before after f o = o
kept_groups (contextual number octets) end n before after f o = o
kept_groups (opening number) end (node.Boolean bit) before after f o = absurd (let u = f in cc)
kept_groups (opening number) end (node.Application m len start) before after (prim, u, same, other, long, sum) o = absurd cc
kept_groups (opening number) end (node.Context m len start) before after (octets, u, long, sum) o = absurd cc
kept_groups (opening number) end (node.Open m c) before after f o = absurd f
kept_groups (opening number) end (node.Close m) before after f o = absurd f
kept_groups (closing number) end (node.Boolean bit) before after f o = absurd (let u = f in cc)
kept_groups (closing number) end (node.Application m len start) before after (prim, u, same, other, long, sum) o = absurd cc
kept_groups (closing number) end (node.Context m len start) before after (octets, u, long, sum) o = absurd cc
kept_groups (closing number) end (node.Open m c) before after f o = absurd f
kept_groups (closing number) end (node.Close m) before after f o = absurd f

-- groups of which one is the innermost
innermost_begun : (es : List Event) (is : List ℕ) (n : ℕ) (ns : List ℕ) → AreBegun es is (n ∷ ns) → (i : ℕ) × (others : List ℕ) × (is ≡ i ∷ others)
innermost_begun es [] n ns h = absurd h
innermost_begun es (i ∷ is) n ns h = (i, is, refl)

pub from_reverse : (groups : List ℕ) (i : ℕ) (is : List ℕ) → reverse groups ≡ i ∷ is → groups ≡ reverse is ++ i ∷ []
from_reverse groups i is e = sym (reverse-reverse groups) ∙ ap reverse e ∙ reverse-append (i ∷ []) is

pub open_number : (a b c d : ℕ) → node.Open a b ≡ node.Open c d → a ≡ c
open_number a b c d e = cc

open_end : (a b c d : ℕ) → node.Open a b ≡ node.Open c d → b ≡ d
open_end a b c d e = cc

module _ (nodes : List Node) (groups : List ℕ) (es : List Event) (octets added before after : List ℕ) (end : ℕ) where
  pub listed_primitive : (e : Event) (n : Node) → MayList e end nodes groups es octets added before after → NodeFor e end n → AreNodes (es ++ e ∷ []) (octets ++ added) (nodes ++ n ∷ []) groups after
  listed_primitive e n m f =
      let fits = node_fits e octets added end n m.least m.ends f in
      let (x, is) = alone e end n f in
      record {
        events_are = map_push (node_event (octets ++ added)) nodes n ∙ ap (λ (l : List Event). l ++ node_event (octets ++ added) n ∷ []) (events_kept octets added nodes m.are_nodes.lie ∙ m.are_nodes.events_are) ∙ ap (λ (f : Event). es ++ f ∷ []) fits.0;
        lie = All-push (Lies (octets ++ added)) nodes n (All-weaker (Lies octets) (Lies (octets ++ added)) (lies_kept octets added) nodes m.are_nodes.lie) fits.1;
        begun = subst (AreBegun (es ++ e ∷ []) (reverse groups)) (kept_groups e end n before after f m.opens)
            (subst (λ (l : List Event). AreBegun (es ++ l) (reverse groups) before) (sym is) (begun_more es (reverse groups) before x m.are_nodes.begun));
        ended = ended_more es e nodes n groups groups m.are_nodes.ended (λ i a. a) (λ number last i. absurd (no_opening e end n f number last i));
      }

  count_is : AreNodes es octets nodes groups before → length nodes ≡ length es
  count_is h = sym (length-map nodes (node_event octets)) ∙ ap length h.events_are

  pub listed_open : (number link : ℕ) → MayList (opening number) end nodes groups es octets added before after → AreNodes (es ++ opening number ∷ []) (octets ++ added) (nodes ++ node.Open number link ∷ []) (groups ++ length nodes ∷ []) after
  listed_open number link m =
      record {
        events_are = map_push (node_event (octets ++ added)) nodes (node.Open number link) ∙ ap (λ (l : List Event). l ++ opening number ∷ []) (events_kept octets added nodes m.are_nodes.lie ∙ m.are_nodes.events_are);
        lie = All-push (Lies (octets ++ added)) nodes (node.Open number link) (All-weaker (Lies octets) (Lies (octets ++ added)) (lies_kept octets added) nodes m.are_nodes.lie) m.least.member.valid;
        begun = subst (λ (is : List ℕ). AreBegun (es ++ opening number ∷ []) is after) (sym (reverse-append groups (length nodes ∷ [])))
            (subst (λ (i : ℕ). AreBegun (es ++ opening number ∷ []) (i ∷ reverse groups) after) (sym (count_is m.are_nodes))
            (subst (AreBegun (es ++ opening number ∷ []) (length es ∷ reverse groups)) m.opens.1 (begun_open es (reverse groups) before number m.are_nodes.begun)));
        ended = ended_more es (opening number) nodes (node.Open number link) groups (groups ++ length nodes ∷ []) m.are_nodes.ended (λ i a. among_more i (length nodes) groups a) (λ k last i. among_last (length nodes) groups);
      }

  -- the group that ends is the innermost one
  pub close_some : (number : ℕ) → MayList (closing number) end nodes groups es octets added before after → (outer : List ℕ) × (index : ℕ) × (groups ≡ outer ++ index ∷ []) × (index < length nodes)
  close_some number m =
      let (r, b, a) = m.opens in
      let (i, is, g) = innermost_begun es (reverse groups) number r (subst (AreBegun es (reverse groups)) b m.are_nodes.begun) in
      let (front, rest, e, l) = begun_at es i is number r (subst (λ (gs : List ℕ). AreBegun es gs (number ∷ r)) g (subst (AreBegun es (reverse groups)) b m.are_nodes.begun)) in
      (reverse is, i, from_reverse groups i is g, omega (arith, count_is m.are_nodes, ap length e, length-append front (opening number ∷ rest), l))

  pub listed_close : (number : ℕ) (outer : List ℕ) (index : ℕ) → groups ≡ outer ++ index ∷ [] → MayList (closing number) end nodes groups es octets added before after
      → AreNodes (es ++ closing number ∷ []) (octets ++ added) (set nodes index (node.Open number (length nodes)) ++ node.Close number ∷ []) outer after
  listed_close number outer index g m =
      let (r, b, a) = m.opens in
      let begun : AreBegun es (index ∷ reverse outer) (number ∷ r) = subst (λ (gs : List ℕ). AreBegun es gs (number ∷ r)) (ap reverse g ∙ reverse-append outer (index ∷ [])) (subst (AreBegun es (reverse groups)) b m.are_nodes.begun) in
      let (front, rest, e, l) = begun_at es index (reverse outer) number r begun in
      let opened : Node = node.Open number (length nodes) in
      let same : set es index (opening number) ≡ es = ap (λ (fs : List Event). set fs index (opening number)) e ∙ set_at front (opening number) rest (opening number) index l ∙ sym e in
      record {
        events_are = map_push (node_event (octets ++ added)) (set nodes index opened) (node.Close number)
            ∙ ap (λ (fs : List Event). fs ++ closing number ∷ []) (map-set (node_event (octets ++ added)) nodes index opened ∙ ap (λ (fs : List Event). set fs index (opening number)) (events_kept octets added nodes m.are_nodes.lie ∙ m.are_nodes.events_are) ∙ same);
        lie = All-push (Lies (octets ++ added)) (set nodes index opened) (node.Close number)
            (All-set (Lies (octets ++ added)) nodes index opened m.least.member.valid (All-weaker (Lies octets) (Lies (octets ++ added)) (lies_kept octets added) nodes m.are_nodes.lie)) tt;
        begun = subst (AreBegun (es ++ closing number ∷ []) (reverse outer)) a (begun_close es index (reverse outer) number r begun);
        ended = λ i n last is.
            elim (get_last (set nodes index opened) (node.Close number) i (node.Open n last) is) [
              | inl h ↦
                  elim (get_set nodes index opened i (node.Open n last) h) [
                    | inl s ↦
                        let closed = begun_group es index (reverse outer) number r begun in
                        let ends : length es ≡ last = sym (count_is m.are_nodes) ∙ open_end number (length nodes) n last s.1 in
                        inr (subst (λ (k : ℕ). IsGroup (es ++ closing number ∷ []) k n last) (sym s.0)
                        (subst (λ (k : ℕ). IsGroup (es ++ closing number ∷ []) index k last) (open_number number (length nodes) n last s.1)
                        (subst (IsGroup (es ++ closing number ∷ []) index number) ends closed)))
                    | inr s ↦
                        elim (m.are_nodes.ended i n last s.1) [
                          | inl k ↦ inl (among_others i index outer (subst (Among i) g k) s.0)
                          | inr k ↦ inr (group_kept es (closing number) i n last k)
                        ]
                  ]
              | inr h ↦ absurd (let u : node.Close number ≡ node.Open n last = h.1 in cc)
            ];
      }

-- the contents of a primitive are no more than its octets
pub primitive_fits : (prim : PrimitiveValue) (before : ℕ) (added : List ℕ) (end : ℕ) → application_number prim ≢ 1 → IsLeast (SpellsPrimitive prim) added → end ≡ before + length added → length (prim_written prim) ≤ end
primitive_fits prim before added end other p e =
    let w = least_written prim added other p in
    omega (arith, e, ap length w.octets_are, length-append w.head (prim_written prim))

pub context_fits : (number : ℕ) (octets : List ℕ) (before : ℕ) (added : List ℕ) (end : ℕ) → IsLeast (SpellsContext number octets) added → end ≡ before + length added → length octets ≤ end
context_fits number octets before added end p e = omega (arith, e, ap length p.member.joined, length-append p.member.head octets)

-- ---- the node of the innermost open group

pub opening_node : (octets : List ℕ) (o : Option Node) (n : ℕ) → option_map (node_event octets) o ≡ Some (opening n) → (end : ℕ) × (o ≡ Some (node.Open n end))
opening_node octets None n e = absurd (none-some (opening n) e)
opening_node octets (Some (node.Boolean bit)) n e = absurd (let u = same_Some _ _ e in cc)
opening_node octets (Some (node.Application number len start)) n e = absurd (let u = same_Some _ _ e in cc)
opening_node octets (Some (node.Context number len start)) n e = absurd (let u = same_Some _ _ e in cc)
opening_node octets (Some (node.Open number end)) n e = (end, ap (λ (k : ℕ). Some (node.Open k end)) (same_opening number n (same_Some (opening number) (opening n) e)))
  where
    same_opening : (a b : ℕ) → opening a ≡ opening b → a ≡ b
    same_opening a b e = cc
opening_node octets (Some (node.Close number)) n e = absurd (let u = same_Some _ _ e in cc)

pub record Innermost (nodes : List Node) (groups numbers : List ℕ) : Type 0 where
  pub number : ℕ
  pub end : ℕ
  pub node_is : slice_get nodes (get_or groups (length groups - 1) 0) ≡ Some (node.Open number end)
  pub first : slice_get numbers 0 ≡ Some number

pub innermost_node : (es : List Event) (octets : List ℕ) (nodes : List Node) (groups numbers : List ℕ) → AreNodes es octets nodes groups numbers → (length groups ≡ 0 → ⊥) → Innermost nodes groups numbers
innermost_node es octets nodes groups [] h some = absurd (some (omega (arith, begun_count es (reverse groups) [] h.begun, length-reverse groups)))
innermost_node es octets nodes groups (n ∷ ns) h some =
    let (i, is, g) = innermost_begun es (reverse groups) n ns h.begun in
    let (front, rest, e, l) = begun_at es i is n ns (subst (λ (gs : List ℕ). AreBegun es gs (n ∷ ns)) g h.begun) in
    let whole = from_reverse groups i is g in
    let last : get_or groups (length groups - 1) 0 ≡ i = ap (λ (gs : List ℕ). get_or gs (length groups - 1) 0) whole ∙ get_or_at (reverse is) i [] 0 (length groups - 1) (omega (arith, ap length whole, length-append (reverse is) (i ∷ []))) in
    let there : slice_get es i ≡ Some (opening n) = ap (λ (fs : List Event). slice_get fs i) e ∙ slice_get_at front (opening n) rest i l in
    let (end, is) = opening_node octets (slice_get nodes i) n (sym (slice_get-map (node_event octets) nodes i) ∙ ap (λ (fs : List Event). slice_get fs i) h.events_are ∙ there) in
    record { number = n; end = end; node_is = ap (slice_get nodes) last ∙ is; first = refl }

-- ---- a node that is read

-- the event with that index
pub event_there : (octets : List ℕ) (nodes : List Node) (i : ℕ) (n : Node) → slice_get nodes i ≡ Some n → slice_get (node_events octets nodes) i ≡ Some (node_event octets n)
event_there octets nodes i n e = slice_get-map (node_event octets) nodes i ∙ ap (option_map (node_event octets)) e

-- the events from there on
pub step_is : (octets : List ℕ) (nodes : List Node) (i : ℕ) (n : Node) → slice_get nodes i ≡ Some n → drop i (node_events octets nodes) ≡ node_event octets n ∷ drop (i + 1) (node_events octets nodes)
step_is octets nodes i n e =
    let within = slice_get_within nodes i n e in
    let there : get_or nodes i n ≡ n = get_or_from_slice_get nodes i n n e in
    drop_more (node_events octets nodes) i (node_event octets n) (omega (arith, within, length-map nodes (node_event octets)))
    ∙ ap (λ (e : Event). e ∷ drop (i + 1) (node_events octets nodes)) (get_or-map (node_event octets) nodes i n (node_event octets n) within ∙ ap (node_event octets) there)

-- it lies in the octets
pub lies_there : (octets : List ℕ) (nodes : List Node) (i : ℕ) (n : Node) → All (Lies octets) nodes → slice_get nodes i ≡ Some n → Lies octets n
lies_there octets nodes i n all e = subst (Lies octets) (get_or_from_slice_get nodes i n n e) (all i n (slice_get_within nodes i n e))

-- ---- a group that is passed over

pub group_within : (es : List Event) (i n end : ℕ) → IsGroup es i n end → end < length es
group_within es i n end g =
    omega (arith, ap length g.events_are, length-append g.front (opening n ∷ (events g.inner ++ closing n ∷ g.rest)), length-append (events g.inner) (closing n ∷ g.rest), g.begins, g.ends)

pub group_skipped : (es : List Event) (i n end : ℕ) (g : IsGroup es i n end) → drop i es ≡ opening n ∷ (events g.inner ++ closing n ∷ drop (end + 1) es)
group_skipped es i n end g =
    let inside : List Event = events g.inner ++ closing n ∷ [] in
    let front : List Event = g.front ++ opening n ∷ inside in
    let whole : es ≡ front ++ g.rest =
    g.events_are ∙ ap (λ (l : List Event). g.front ++ opening n ∷ l) (sym (append_assoc (events g.inner) (closing n ∷ []) g.rest)) ∙ sym (append_assoc g.front (opening n ∷ inside) g.rest) in
    let place : length front ≡ end + 1 = omega (arith, length-append g.front (opening n ∷ inside), length-append (events g.inner) (closing n ∷ []), g.begins, g.ends) in
    let rest : drop (end + 1) es ≡ g.rest = ap (drop (end + 1)) whole ∙ drop_at front g.rest (end + 1) place in
    ap (drop i) g.events_are ∙ drop_at g.front (opening n ∷ (events g.inner ++ closing n ∷ g.rest)) i g.begins ∙ ap (λ (l : List Event). opening n ∷ (events g.inner ++ closing n ∷ l)) (sym rest)

-- the group that begins at a node, where all groups are closed
pub group_there : (es : List Event) (octets : List ℕ) (nodes : List Node) (numbers : List ℕ) (i number end : ℕ) → AreNodes es octets nodes [] numbers → slice_get nodes i ≡ Some (node.Open number end) → IsGroup es i number end
group_there es octets nodes numbers i number end h is =
    elim (h.ended i number end is) [
      | inl a ↦ absurd a
      | inr g ↦ g
    ]

-- no group begins where no opening is
pub begins_none : (octets : List ℕ) (n : Node) (walk rest : List Event) → walk ≡ node_event octets n ∷ rest → ((number end : ℕ) → n ≡ node.Open number end → ⊥) → (number : ℕ) (others : List Event) → walk ≡ opening number ∷ others → ⊥
begins_none octets n walk rest e other number others f =
    let first : node_event octets n ≡ opening number = first_is (sym e ∙ f) in
    let (end, is) = opening_node octets (Some n) number (ap (λ (x : Event). Some x) first) in
    other number end (same_Some n (node.Open number end) is)
  where
    first_is : {x y : Event} {xs ys : List Event} → x ∷ xs ≡ y ∷ ys → x ≡ y
    first_is e = cc
