use Rattle.std.proofs.Common.{ℕ, List, ◌∙◌, ap}
use Rattle.bac_data.specs.declared.nodes.Node.{Node}
use Rattle.bac_data.specs.Events.{value_of_events}
use Rattle.bac_data.specs.HeldLists.{octets_of, nodes_of}
use Rattle.bac_data.specs.NodeEvents.{node_events}
use Rattle.bac_data.proofs.HeldLemmas.{held_alike}
use Rattle.bac_data.proofs.open_value.AnyClone.clone.Goals as goal

pub invariant_of-result : goal.invariant_of-result
invariant_of-result c = (c.in_ok-held.ensures.sound, held_alike _ _ _ _ _ c.in_ok-held.ensures.octets c.in_ok-held.ensures.nodes c.self.invariant.1)

pub returns : goal.returns
returns c = record { cases = ap (λ (b : List ℕ). value_of_events (node_events b (nodes_of c.in_ok-held.held))) c.in_ok-held.ensures.octets ∙ ap (λ (ns : List Node). value_of_events (node_events (octets_of c.self.inside.held) ns)) c.in_ok-held.ensures.nodes ∙ c.self.view_is }
