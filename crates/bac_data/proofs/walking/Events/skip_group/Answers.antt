use Rattle.std.proofs.Common.{◌≡◌, ◌≤◌, ℕ, ◌+◌, Some, List, [], length, refl, sym, ◌∙◌, ap, arith}
use Rattle.std.specs.Prelude.{slice_get}
use Rattle.std.proofs.lemmas.List.{length-map}
use Rattle.bac_data.specs.declared.nodes.Node.{Node}
use Rattle.bac_data.specs.declared.nodes.Node.TheVariants as node
use Rattle.bac_data.specs.HeldLists.{nodes_of}
use Rattle.bac_data.specs.NodeEvents.{node_event, node_events, AreNodes, IsGroup}
use Rattle.bac_data.proofs.NodeLemmas.{step_is, group_there, group_within, group_skipped, begins_none}
use Rattle.bac_data.proofs.walking.Events.skip_group.Goals as goal

-- the group that begins next, which ends within the nodes
module _ (octets : List ℕ) (nodes : List Node) (next number closing : ℕ) (n : Node) (h : AreNodes (node_events octets nodes) octets nodes [] []) (there : slice_get nodes next ≡ Some n) (is : n ≡ node.Open number closing) where
  here : IsGroup (node_events octets nodes) next number closing
  here = group_there (node_events octets nodes) octets nodes [] next number closing h (there ∙ ap (λ (m : Node). Some m) is)

  ends : closing + 1 ≤ length nodes
  ends = omega (arith, group_within (node_events octets nodes) next number closing here, length-map nodes (node_event octets))

pub overflow_add-self : goal.overflow_add-self
overflow_add-self c = omega (arith, ends c.self.inside.octets.now (nodes_of c.self.inside.held.now) c.self.inside.next c.in-Open.number c.in-Open.closing c.node.result c.self.invariant.2 c.node.ensures c.in-Open.is, c.count.ensures)

pub invariant_of-self : goal.invariant_of-self
invariant_of-self c = (c.self.invariant.0, ends c.self.inside.octets.now (nodes_of c.self.inside.held.now) c.self.inside.next c.in-Open.number c.in-Open.closing c.node.result c.self.invariant.2 c.node.ensures c.in-Open.is, c.self.invariant.2)

pub returns-in-Open : goal.returns-in-Open
returns-in-Open c =
    let octets = c.self.inside.octets.now in
    let nodes = nodes_of c.self.inside.held.now in
    let group = here octets nodes c.self.inside.next c.in-Open.number c.in-Open.closing c.node.result c.self.invariant.2 c.node.ensures c.in-Open.is in
    (group.inner, sym c.self.view_is ∙ group_skipped (node_events octets nodes) c.self.inside.next c.in-Open.number c.in-Open.closing group)

pub returns-in_default : goal.returns-in_default
returns-in_default c = (
  refl,
  begins_none c.self.inside.octets.now c.node.result c.args.self.now _ (sym c.self.view_is ∙ step_is c.self.inside.octets.now (nodes_of c.self.inside.held.now) c.self.inside.next c.node.result c.node.ensures) c.in_default.not-Open,
)
