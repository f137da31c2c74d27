use Rattle.std.proofs.Common.{◌+◌, ◌∷◌, drop, sym, ◌∙◌, ap}
use Rattle.bac_data.specs.Events.{Event}
use Rattle.bac_data.specs.HeldLists.{nodes_of}
use Rattle.bac_data.specs.NodeEvents.{node_events}
use Rattle.bac_data.proofs.NodeLemmas.{step_is, lies_there}
use Rattle.bac_data.proofs.walking.EventsIterator.next.Goals as goal

pub event_at-requires : goal.event_at-requires
event_at-requires c = lies_there c.self.inside.octets.now (nodes_of c.self.inside.held.now) c.self.inside.next c.node-node.result c.self.invariant.2.lie c.node-node.ensures

pub returns-clause-steps : goal.returns-clause-steps
returns-clause-steps c =
    let octets = c.self.inside.octets.now in
    let nodes = nodes_of c.self.inside.held.now in (
      sym c.self.view_is ∙ step_is octets nodes c.self.inside.next c.node-node.result c.node-node.ensures ∙ ap (λ (e : Event). e ∷ drop (c.self.inside.next + 1) (node_events octets nodes)) (sym c.event_at.ensures.event),
      c.event_at.ensures.packed,
    )
