use Rattle.std.proofs.Common.{◌≤◌, ◌-◌, length}
use Rattle.bac_lines.proofs.shared.shared_octets.Given as goal

abbrev pub invariant-loop-count : goal.invariant-loop-count
invariant-loop-count l = (l.count ≤ length l.word) × (l.count ≤ length l.line)

abbrev pub decreases-loop-count : goal.decreases-loop-count
decreases-loop-count l = length l.word - l.count
