use Rattle.std.proofs.Common.{◌≤◌, length}
use Rattle.bac_lines.proofs.refused_lines.read_reason.Given as goal

abbrev pub invariant-loop-reason : goal.invariant-loop-reason
invariant-loop-reason l = l.farthest ≤ length l.line
