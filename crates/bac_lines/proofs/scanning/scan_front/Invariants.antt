use Rattle.std.proofs.Common.{◌≤◌, length}
use Rattle.bac_lines.proofs.scanning.scan_front.Given as goal

abbrev pub invariant-loop : goal.invariant-loop
invariant-loop l = l.taken ≤ length l.line
