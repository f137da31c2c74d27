-- What is held of a value, event by event.
use Rattle.std.proofs.Common.{◌≡◌, ℕ, ◌<◌, ◌≤◌, None, Some, List, [], ◌∷◌, ◌++◌, ◌-◌, reverse, set, get_or, length, refl, sym, ◌∙◌, ap, subst, arith, length-append}
use Rattle.std.specs.Prelude.{slice_get}
use Rattle.std.proofs.lemmas.List.{length-reverse}
use Rattle.std.proofs.lemmas.List.Elements.{All-nil}
use Rattle.std.proofs.lemmas.Option.{none-some, same_Some, slice_get_within, get_or_from_slice_get}
use Rattle.bac_tag.specs.Spelling.{IsLeast, AppendsLeast}
use Rattle.bac_data.specs.declared.nodes.Node.{Node}
use Rattle.bac_data.specs.declared.nodes.Node.TheVariants as node
use Rattle.bac_data.specs.OpenValue.{none}
use Rattle.bac_data.specs.Events.{Event, opening, closing, Opens, SpellsEvent, SpellsEvents}
use Rattle.bac_data.specs.Building.{HasOpen, IsInnermost}
use Rattle.bac_data.specs.NodeEvents.{node_events, Lies, AreNodes, IsHeld, NodeFor, MayList}
use Rattle.bac_data.proofs.BuildingLemmas.{has_open_one}
use Rattle.bac_data.proofs.DepthLemmas.{opens_bound}
use Rattle.bac_data.proofs.LeastLemmas.{least_more, least_none}
use Rattle.bac_data.proofs.NodeLemmas.{begun_count, innermost_node, listed_primitive, listed_open, close_some, listed_close}
use Rattle.bac_data.proofs.OpenLemmas.{Opens-append}

-- ---- nothing

pub nothing_listed : (octets : List ℕ) → AreNodes [] octets [] [] []
nothing_listed octets = record { events_are = refl; lie = All-nil (Lies octets); begun = (none, refl); ended = λ index number end is. absurd (none-some (node.Open number end) is) }

pub held_nothing : (octets : List ℕ) (nodes : List Node) (groups : List ℕ) → octets ≡ [] → nodes ≡ [] → groups ≡ [] → IsHeld octets nodes groups
held_nothing octets nodes groups e f g = rw (e, f, g) (record { numbers = []; least = least_none [] refl; opened = refl; are_nodes = nothing_listed [] })

-- ---- how many groups are open

module _ (octets : List ℕ) (nodes : List Node) (groups : List ℕ) (h : IsHeld octets nodes groups) where
  pub held_few : length groups ≤ 32
  held_few = omega (arith, opens_bound 32 (node_events octets nodes) [] h.numbers (omega arith) h.opened, begun_count (node_events octets nodes) (reverse groups) h.numbers h.are_nodes.begun, length-reverse groups)

  module _ (now : List Event) (view : node_events octets nodes ≡ now) (n : ℕ) where
    pub held_open : length groups ≡ n → HasOpen 32 now n
    held_open e = (
      h.numbers,
      subst (λ (es : List Event). Opens 32 [] es h.numbers) view h.opened,
      omega (arith, begun_count (node_events octets nodes) (reverse groups) h.numbers h.are_nodes.begun, length-reverse groups, e),
    )

    pub held_not_open : (length groups ≡ n → ⊥) → HasOpen 32 now n → ⊥
    held_not_open other p =
        let here : HasOpen 32 now (length groups) = (h.numbers, subst (λ (es : List Event). Opens 32 [] es h.numbers) view h.opened, omega (arith, begun_count (node_events octets nodes) (reverse groups) h.numbers h.are_nodes.begun, length-reverse groups)) in
        other (has_open_one now (length groups) n here p)

-- ---- the innermost group

none_first : (numbers : List ℕ) → slice_get numbers 0 ≡ None → length numbers ≡ 0
none_first [] e = refl
none_first (n ∷ ns) e = absurd (none-some n (sym e))

some_first : (numbers : List ℕ) (number : ℕ) → slice_get numbers 0 ≡ Some number → (others : List ℕ) × (numbers ≡ number ∷ others)
some_first [] number e = absurd (none-some number e)
some_first (n ∷ ns) number e = (ns, ap (λ (k : ℕ). k ∷ ns) (same_Some n number e))

module _ (octets : List ℕ) (nodes : List Node) (groups : List ℕ) (h : IsHeld octets nodes groups) where
  count_is : length h.numbers ≡ length groups
  count_is = sym (begun_count (node_events octets nodes) (reverse groups) h.numbers h.are_nodes.begun) ∙ length-reverse groups

  -- none is open
  pub held_no_group : slice_get h.numbers 0 ≡ None → length groups ≡ 0
  held_no_group e = sym count_is ∙ none_first h.numbers e

  -- one is open
  module _ (number : ℕ) (first : slice_get h.numbers 0 ≡ Some number) where
    pub held_some_group : length groups ≡ 0 → ⊥
    held_some_group e = let s = some_first h.numbers number first in omega (arith, count_is, ap length s.1, e)

    pub held_number : number ≤ 254
    held_number =
        let i = innermost_node (node_events octets nodes) octets nodes groups h.numbers h.are_nodes held_some_group in
        let place : ℕ = get_or groups (length groups - 1) 0 in
        let is : get_or nodes place (node.Close 0) ≡ node.Open i.number i.end = get_or_from_slice_get nodes place (node.Open i.number i.end) (node.Close 0) i.node_is in
        let small : i.number ≤ 254 = subst (Lies octets) is (h.are_nodes.lie place (node.Close 0) (slice_get_within nodes place (node.Open i.number i.end) i.node_is)) in
        subst (λ (n : ℕ). n ≤ 254) (same_Some i.number number (sym i.first ∙ first)) small

    pub held_innermost : (now : List Event) → node_events octets nodes ≡ now → IsInnermost 32 now number
    held_innermost now view =
        let s = some_first h.numbers number first in
        (s.0, subst (λ (es : List Event). Opens 32 [] es (number ∷ s.0)) view (subst (Opens 32 [] (node_events octets nodes)) s.1 h.opened))

-- ---- one event more

module _ (octets octets' : List ℕ) (nodes : List Node) (groups : List ℕ) (h : IsHeld octets nodes groups) (e : Event) (a : AppendsLeast (SpellsEvent e) octets octets') where
  may : (behind : List ℕ) → Opens 32 h.numbers (e ∷ []) behind → MayList e (length octets') nodes groups (node_events octets nodes) octets a.more h.numbers behind
  may behind o = record { are_nodes = h.are_nodes; opens = o; least = a.is_least; ends = ap length a.new_is ∙ length-append octets a.more }

  -- what is held then
  pub record Holds (nodes' : List Node) (groups' : List ℕ) : Type 0 where
    pub held : IsHeld octets' nodes' groups'
    pub events_are : node_events octets' nodes' ≡ node_events octets nodes ++ e ∷ []

  more_held : (behind : List ℕ) (nodes' : List Node) (groups' : List ℕ) → Opens 32 h.numbers (e ∷ []) behind → AreNodes (node_events octets nodes ++ e ∷ []) (octets ++ a.more) nodes' groups' behind → Holds nodes' groups'
  more_held behind nodes' groups' o n =
      let all : List ℕ = octets ++ a.more in
      let es : List Event = node_events octets nodes in
      record {
        held = subst (λ (b : List ℕ). IsHeld b nodes' groups') (sym a.new_is) (record {
          numbers = behind;
          least = subst (λ (fs : List Event). IsLeast (SpellsEvents fs) all) (sym n.events_are) (least_more es e octets a.more h.least a.is_least);
          opened = subst (λ (fs : List Event). Opens 32 [] fs behind) (sym n.events_are) (Opens-append 32 es (e ∷ []) [] h.numbers behind h.opened o);
          are_nodes = subst (λ (fs : List Event). AreNodes fs all nodes' groups' behind) (sym n.events_are) n;
        });
        events_are = ap (λ (b : List ℕ). node_events b nodes') a.new_is ∙ n.events_are;
      }

  pub primitive_held : (nodes' : List Node) (groups' : List ℕ) (end : ℕ) (n : Node) → Opens 32 h.numbers (e ∷ []) h.numbers → end ≡ length octets' → NodeFor e end n → nodes' ≡ nodes ++ n ∷ [] → groups' ≡ groups → Holds nodes' groups'
  primitive_held nodes' groups' end n o l f i j =
      rw (i, j) (more_held h.numbers (nodes ++ n ∷ []) groups o (listed_primitive nodes groups (node_events octets nodes) octets a.more h.numbers h.numbers (length octets') e n (may h.numbers o) (subst (λ (k : ℕ). NodeFor e k n) l f)))

module _ (octets octets' : List ℕ) (nodes : List Node) (groups : List ℕ) (h : IsHeld octets nodes groups) (number : ℕ) where
  pub opening_held : (a : AppendsLeast (SpellsEvent (opening number)) octets octets') (nodes' : List Node) (groups' : List ℕ) → length groups < 32 → nodes' ≡ nodes ++ node.Open number 0 ∷ [] → groups' ≡ groups ++ length nodes ∷ []
      → Holds octets octets' nodes groups h (opening number) a nodes' groups'
  opening_held a nodes' groups' few i j =
      let o : Opens 32 h.numbers (opening number ∷ []) (number ∷ h.numbers) = (omega (arith, few, count_is octets nodes groups h), refl) in
      rw (i, j) (more_held octets octets' nodes groups h (opening number) a (number ∷ h.numbers) (nodes ++ node.Open number 0 ∷ []) (groups ++ length nodes ∷ []) o
      (listed_open nodes groups (node_events octets nodes) octets a.more h.numbers (number ∷ h.numbers) (length octets') number 0 (may octets octets' nodes groups h (opening number) a (number ∷ h.numbers) o)))

  module _ (a : AppendsLeast (SpellsEvent (closing number)) octets octets') (first : slice_get h.numbers 0 ≡ Some number) where
    closes : (behind : List ℕ) × Opens 32 h.numbers (closing number ∷ []) behind
    closes = let s = some_first h.numbers number first in (s.0, (s.0, s.1, refl))

    pub closing_some : (outer : List ℕ) × (index : ℕ) × (groups ≡ outer ++ index ∷ []) × (index < length nodes)
    closing_some = close_some nodes groups (node_events octets nodes) octets a.more h.numbers closes.0 (length octets') number (may octets octets' nodes groups h (closing number) a closes.0 closes.1)

    pub closing_held : (nodes' : List Node) (groups' : List ℕ)
        → ((outer : List ℕ) (index : ℕ) → groups ≡ outer ++ index ∷ [] → (groups' ≡ outer) × (nodes' ≡ set nodes index (node.Open number (length nodes)) ++ node.Close number ∷ [])) → Holds octets octets' nodes groups h (closing number) a nodes' groups'
    closing_held nodes' groups' closed =
        let (outer, index, g, below) = closing_some in
        let (i, j) = closed outer index g in
        rw (i, j) (more_held octets octets' nodes groups h (closing number) a closes.0 (set nodes index (node.Open number (length nodes)) ++ node.Close number ∷ []) outer closes.1
        (listed_close nodes groups (node_events octets nodes) octets a.more h.numbers closes.0 (length octets') number outer index g (may octets octets' nodes groups h (closing number) a closes.0 closes.1)))
