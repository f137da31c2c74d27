use Rattle.std.proofs.Common.{◌≤◌, ◌-◌, length}
use Rattle.bac_lines.proofs.texts.plain_octets.Given as goal

abbrev pub invariant-loop-taken : goal.invariant-loop-taken
invariant-loop-taken l = l.taken ≤ length l.octets

abbrev pub decreases-loop-taken : goal.decreases-loop-taken
decreases-loop-taken l = length l.octets - l.taken
