use Rattle.std.proofs.Common.{◌∙◌}
use Rattle.bac_data.specs.HeldLists.{octets_of, nodes_of}
use Rattle.bac_data.proofs.HeldLemmas.{held_events, held_nodes, held_elements, held_depth}
use Rattle.bac_data.proofs.open_value.Any.events.Goals as goal

pub over-requires-clause-nodes : goal.over-requires-clause-nodes
over-requires-clause-nodes c = held_nodes (octets_of c.self.inside.held) (nodes_of c.self.inside.held) c.args.self.now c.self.invariant.1 c.self.view_is

pub returns-clause-events : goal.returns-clause-events
returns-clause-events c = c.over.ensures ∙ held_events (octets_of c.self.inside.held) (nodes_of c.self.inside.held) c.args.self.now c.self.invariant.1 c.self.view_is

pub returns-clause-value : goal.returns-clause-value
returns-clause-value c = (held_elements (octets_of c.self.inside.held) (nodes_of c.self.inside.held) c.args.self.now c.self.invariant.1 c.self.view_is, held_depth (octets_of c.self.inside.held) (nodes_of c.self.inside.held) c.args.self.now c.self.invariant.1 c.self.view_is)
