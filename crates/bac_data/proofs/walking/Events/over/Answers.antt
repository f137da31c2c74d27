use Rattle.std.proofs.Common.{◌≡◌, ℕ, List, [], ap, arith}
use Rattle.bac_data.specs.declared.nodes.Node.{Node}
use Rattle.bac_data.specs.HeldLists.{octets_of, nodes_of}
use Rattle.bac_data.specs.NodeEvents.{node_events, AreNodes}
use Rattle.bac_data.proofs.walking.Events.over.Goals as goal

-- the octets that are read are those that are held
octets_read : (octets read : List ℕ) (nodes : List Node) → read ≡ octets → AreNodes (node_events octets nodes) octets nodes [] [] → AreNodes (node_events read nodes) read nodes [] []
octets_read octets read nodes e h = rw e h

pub invariant_of-result : goal.invariant_of-result
invariant_of-result c = (c.requires.sound, omega arith, octets_read (octets_of c.args.held.now) c.octets.result.now (nodes_of c.args.held.now) c.octets.ensures c.requires.nodes)

pub returns : goal.returns
returns c = ap (λ (b : List ℕ). node_events b (nodes_of c.args.held.now)) c.octets.ensures
