use Rattle.std.proofs.Common.{◌≤◌, length}
use Rattle.bac_lines.proofs.places.shared_shown.Given as goal

abbrev pub invariant-loop-start : goal.invariant-loop-start
invariant-loop-start l = l.most ≤ length l.line

abbrev pub invariant-loop-names : goal.invariant-loop-names
invariant-loop-names l = l.most ≤ length l.line

abbrev pub invariant-loop-name : goal.invariant-loop-name
invariant-loop-name l = l.most ≤ length l.line
