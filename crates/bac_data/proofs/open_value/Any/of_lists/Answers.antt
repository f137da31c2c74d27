use Rattle.std.proofs.Common.{ℕ, List, ◌∙◌, ap}
use Rattle.bac_data.specs.declared.nodes.Node.{Node}
use Rattle.bac_data.specs.HeldLists.{nodes_of}
use Rattle.bac_data.specs.NodeEvents.{node_events}
use Rattle.bac_data.proofs.HeldLemmas.{held_alike, held_short, value_events}
use Rattle.bac_data.proofs.open_value.Any.of_lists.Goals as goal

pub of_lists-held-requires : goal.of_lists-held-requires
of_lists-held-requires c = λ few least. held_short c.args.octets.items c.args.nodes.items c.requires few least

pub invariant_of-result : goal.invariant_of-result
invariant_of-result c = (c.of_lists-held.ensures.sound, held_alike _ _ _ _ _ c.of_lists-held.ensures.octets c.of_lists-held.ensures.nodes c.requires)

pub returns : goal.returns
returns c =
    value_events _ _ (held_alike _ _ _ _ _ c.of_lists-held.ensures.octets c.of_lists-held.ensures.nodes c.requires) ∙ ap (λ (b : List ℕ). node_events b (nodes_of c.of_lists-held.result)) c.of_lists-held.ensures.octets
    ∙ ap (λ (ns : List Node). node_events c.args.octets.items ns) c.of_lists-held.ensures.nodes
