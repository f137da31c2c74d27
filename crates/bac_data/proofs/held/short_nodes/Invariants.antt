use Rattle.std.proofs.Common.{◌≡◌, length, map, take}
use Rattle.bac_data.specs.ShortNodes.{wide_node}
use Rattle.bac_data.proofs.held.short_nodes.Given as goal

-- the short nodes so far stand for as many nodes
abbrev pub invariant-loop-index : goal.invariant-loop-index
invariant-loop-index l = (length l.few ≡ 6) × (map wide_node (take l.index l.few) ≡ take l.index l.nodes)
