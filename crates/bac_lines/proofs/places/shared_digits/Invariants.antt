use Rattle.std.proofs.Common.{◌≤◌, ◌-◌, length}
use Rattle.bac_lines.proofs.places.shared_digits.Given as goal

abbrev pub invariant-loop-digit : goal.invariant-loop-digit
invariant-loop-digit l = l.count ≤ length l.line

abbrev pub decreases-loop-digit : goal.decreases-loop-digit
decreases-loop-digit l = length l.line - l.count
