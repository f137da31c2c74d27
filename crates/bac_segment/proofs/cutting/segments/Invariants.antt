use Rattle.std.proofs.Common.{◌≡◌, ◌+◌, ◌*◌, length, map}
use Rattle.bac_segment.specs.Deliveries.{delivery}
use Rattle.bac_segment.proofs.PieceLemmas.{CutSoFar}
use Rattle.bac_segment.proofs.cutting.segments.Given as goal

abbrev pub invariant-loop-rest : goal.invariant-loop-rest
invariant-loop-rest l = record {
  so_far : CutSoFar l.plan l.octets (map delivery l.segments.items) l.number l.rest;
  place : l.number * l.plan.size + length l.rest ≡ length l.octets;
}

abbrev pub decreases-loop-rest : goal.decreases-loop-rest
decreases-loop-rest l = length l.rest
