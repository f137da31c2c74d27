use Rattle.std.proofs.Common.{◌≡◌, ◌≤◌, map, take}
use Rattle.std.specs.Vec.{vec_capacity}
use Rattle.bac_data.specs.ShortNodes.{wide_node}
use Rattle.bac_data.proofs.listing.grow.Given as goal

-- the nodes so far are those of the few, and there is room for all of them and one more
abbrev pub invariant-loop-index : goal.invariant-loop-index
invariant-loop-index l = (l.many.items ≡ map wide_node (take l.index l.few)) × (16 ≤ vec_capacity l.many)
