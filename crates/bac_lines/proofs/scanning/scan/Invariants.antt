use Rattle.std.proofs.Common.{◌≤◌, ◌-◌, length}
use Rattle.bac_lines.proofs.PartwayLemmas.{ScansTo, IsScannedTo}
use Rattle.bac_lines.proofs.scanning.scan.Given as goal

abbrev pub invariant-loop-taken : goal.invariant-loop-taken
invariant-loop-taken l = record {
  within : l.taken ≤ length l.line;
  scanned : ScansTo l.line l.first l.taken l.ends.items l.said;
  printed : IsScannedTo l.line l.first l.taken l.ends.items l.said;
}

abbrev pub decreases-loop-taken : goal.decreases-loop-taken
decreases-loop-taken l = length l.line - l.taken
