use Rattle.std.proofs.Common.{length}
use Rattle.bac_message.proofs.GatherLemmas.{IsFarther}
use Rattle.bac_message.proofs.record_fronts.check_rest.Given as goal

-- the frames so far
abbrev pub invariant-loop-left : goal.invariant-loop-left
invariant-loop-left l = IsFarther l.first l.index l.rest l.left

abbrev pub decreases-loop-left : goal.decreases-loop-left
decreases-loop-left l = length l.left
