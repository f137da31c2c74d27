-- What the canonical octets and the nodes of a value tell of it.
use Rattle.std.proofs.Common.{◌≡◌, ◌↔◌, IsTrue, ℕ, ◌<◌, ◌≤◌, Bool, Some, List, [], ◌∷◌, get_or, length, refl, sym, ◌∙◌, ap, subst, arith}
use Rattle.std.proofs.lemmas.List.{length-map}
use Rattle.std.specs.List.{All}
use Rattle.std.proofs.lemmas.Option.{slice_get-get_or}
use Rattle.std.specs.Bool.{one_answer}
use Rattle.bac_tag.specs.Spelling.{IsLeast}
use Rattle.bac_tag.specs.Laws.Spelling.{IsLeast-one}
use Rattle.bac_data.specs.OpenValue.{Elements, AreElements, depth}
use Rattle.bac_data.specs.Events.{Event, events, Opens, SpellsEvents, value_of_events}
use Rattle.bac_data.specs.declared.nodes.Node.{Node}
use Rattle.bac_data.specs.NodeEvents.{node_event, node_events, Lies, AreBegun, AreNodes, IsHeld}
use Rattle.bac_data.specs.declared.nodes.Node.TheVariants as node
use Rattle.bac_data.specs.ShortNodes.{IsShort}
use Rattle.bac_data.proofs.NodeLemmas.{group_there, group_within}
use Rattle.bac_data.specs.Same.{same_values}
use Rattle.bac_data.specs.Laws.Events.{value_of_events-events}
use Rattle.bac_data.specs.Laws.Alignment.{events_once}
use Rattle.bac_data.specs.Laws.Same.{same_values_tell}
use Rattle.bac_data.proofs.BalancedLemmas.{events-value_of_events}
use Rattle.bac_data.proofs.EventLemmas.{value_spelled}
use Rattle.bac_data.proofs.ValueLemmas.{elements_value}

-- where no group is open, there is no number of one
pub none_numbers : (es : List Event) (numbers : List ℕ) → AreBegun es [] numbers → numbers ≡ []
none_numbers es [] h = refl
none_numbers es (n ∷ ns) h = absurd h

-- ---- the value

module _ (es : List Event) (octets : List ℕ) (v : Elements) (p : IsLeast (SpellsEvents es) octets) (o : Opens 32 [] es []) (view : value_of_events es ≡ v) where
  pub events_are : es ≡ events v
  events_are = sym (events-value_of_events 32 es o).0 ∙ ap events view

  pub least_of_value : IsLeast (SpellsEvents (events v)) octets
  least_of_value = subst (λ (fs : List Event). IsLeast (SpellsEvents fs) octets) events_are p

  pub depth_of_value : depth v ≤ 32
  depth_of_value = subst (λ (w : Elements). depth w ≤ 32) view (events-value_of_events 32 es o).1

  pub are_elements : AreElements v
  are_elements = elements_value v octets (value_spelled v octets least_of_value.member)

-- ---- what is held

module _ (octets : List ℕ) (nodes : List Node) (v : Elements) (h : IsHeld octets nodes []) (view : value_of_events (node_events octets nodes) ≡ v) where
  whole : Opens 32 [] (node_events octets nodes) []
  whole = subst (Opens 32 [] (node_events octets nodes)) (none_numbers (node_events octets nodes) h.numbers h.are_nodes.begun) h.opened

  pub held_events : node_events octets nodes ≡ events v
  held_events = events_are (node_events octets nodes) octets v h.least whole view

  pub held_least : IsLeast (SpellsEvents (events v)) octets
  held_least = least_of_value (node_events octets nodes) octets v h.least whole view

  pub held_depth : depth v ≤ 32
  held_depth = depth_of_value (node_events octets nodes) octets v h.least whole view

  pub held_elements : AreElements v
  held_elements = are_elements (node_events octets nodes) octets v h.least whole view

  pub held_nodes : AreNodes (node_events octets nodes) octets nodes [] []
  held_nodes = subst (AreNodes (node_events octets nodes) octets nodes []) (none_numbers (node_events octets nodes) h.numbers h.are_nodes.begun) h.are_nodes

  -- there are as many nodes as events
  pub held_count : length nodes ≡ length (events v)
  held_count = sym (length-map nodes (node_event octets)) ∙ ap length held_events

-- in a short value each node is a short one
node_short : (octets : List ℕ) (nodes : List Node) (numbers : List ℕ) (i : ℕ) (d n : Node) → AreNodes (node_events octets nodes) octets nodes [] numbers → i < length nodes → get_or nodes i d ≡ n → Lies octets n → length octets ≤ 24 → length nodes ≤ 6 → IsShort n
node_short octets nodes numbers i d (node.Boolean bit) h within is lies few least = tt
node_short octets nodes numbers i d (node.Application number len start) h within is lies few least = (omega (arith, lies.0, few), omega (arith, lies.0, few))
node_short octets nodes numbers i d (node.Context number len start) h within is lies few least = (omega (arith, lies, few), omega (arith, lies, few))
node_short octets nodes numbers i d (node.Open number closing) h within is lies few least =
    let ends = group_within (node_events octets nodes) i number closing (group_there (node_events octets nodes) octets nodes numbers i number closing h (slice_get-get_or nodes i d within ∙ ap (λ (n : Node). Some n) is)) in
    omega (arith, ends, length-map nodes (node_event octets), least)
node_short octets nodes numbers i d (node.Close number) h within is lies few least = tt

pub held_short : (octets : List ℕ) (nodes : List Node) → IsHeld octets nodes [] → length octets ≤ 24 → length nodes ≤ 6 → All IsShort nodes
held_short octets nodes h few least i d within = node_short octets nodes h.numbers i d (get_or nodes i d) h.are_nodes within refl (h.are_nodes.lie i d within) few least

-- the value that is held in them has their events
pub value_events : (octets : List ℕ) (nodes : List Node) → IsHeld octets nodes [] → events (value_of_events (node_events octets nodes)) ≡ node_events octets nodes
value_events octets nodes h = sym (held_events octets nodes (value_of_events (node_events octets nodes)) h refl)

-- the same nodes, and the same octets
pub held_alike : (octets copied : List ℕ) (nodes others : List Node) (groups : List ℕ) → copied ≡ octets → others ≡ nodes → IsHeld octets nodes groups → IsHeld copied others groups
held_alike octets copied nodes others groups e f h = rw (e, f) h

-- two values are the same exactly where their canonical octets are
pub octets_tell : (v w : Elements) (b c : List ℕ) (r : Bool) → IsLeast (SpellsEvents (events v)) b → IsLeast (SpellsEvents (events w)) c → AreElements v → AreElements w → IsTrue r ↔ (b ≡ c)
    → (r ≡ same_values v w) × (IsTrue r ↔ (v ≡ w))
octets_tell v w b c r p q x y tells =
    let value : b ≡ c → v ≡ w =
    λ e. sym (value_of_events-events v) ∙ ap value_of_events (events_once (events v) (events w) b p.member (subst (SpellsEvents (events w)) (sym e) q.member)) ∙ value_of_events-events w
    in
    let octets : v ≡ w → b ≡ c = λ e. IsLeast-one (SpellsEvents (events w)) b c (subst (λ (u : Elements). IsLeast (SpellsEvents (events u)) b) e p) q in
    let told : (IsTrue r → v ≡ w) × (v ≡ w → IsTrue r) = (λ t. value (tells.0 t), λ e. tells.1 (octets e)) in
    (one_answer r (same_values v w) told (same_values_tell v w x y), told)
