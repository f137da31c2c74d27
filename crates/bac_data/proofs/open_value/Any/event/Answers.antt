use Rattle.std.proofs.Common.{Some, List, ℕ, sym, ◌∙◌, ap, subst, arith}
use Rattle.std.specs.Prelude.{slice_get}
use Rattle.bac_data.specs.Events.{Event}
use Rattle.bac_data.specs.HeldLists.{octets_of, nodes_of}
use Rattle.bac_data.specs.NodeEvents.{Lies, node_event}
use Rattle.bac_data.proofs.HeldLemmas.{held_events, held_count}
use Rattle.bac_data.proofs.NodeLemmas.{event_there, lies_there}
use Rattle.bac_data.proofs.open_value.Any.event.Goals as goal

pub returns-then-index-count-clause-event : goal.returns-then-index-count-clause-event
returns-then-index-count-clause-event c = omega (arith, held_count (octets_of c.self.inside.held) (nodes_of c.self.inside.held) c.args.self.now c.self.invariant.1 c.self.view_is)

pub event_at-requires : goal.event_at-requires
event_at-requires c = subst (λ (b : List ℕ). Lies b c.node.result) (sym c.octets.ensures) (lies_there (octets_of c.self.inside.held) (nodes_of c.self.inside.held) c.args.index c.node.result c.self.invariant.1.are_nodes.lie c.node.ensures)

pub returns-clause-event : goal.returns-clause-event
returns-clause-event c =
    ap (λ (es : List Event). slice_get es c.args.index) (sym (held_events (octets_of c.self.inside.held) (nodes_of c.self.inside.held) c.args.self.now c.self.invariant.1 c.self.view_is))
    ∙ event_there (octets_of c.self.inside.held) (nodes_of c.self.inside.held) c.args.index c.node.result c.node.ensures ∙ ap (λ (b : List ℕ). Some (node_event b c.node.result)) (sym c.octets.ensures) ∙ ap (λ (e : Event). Some e) (sym c.event_at.ensures.event)
