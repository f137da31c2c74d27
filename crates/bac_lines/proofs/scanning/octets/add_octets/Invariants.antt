use Rattle.std.proofs.Common.{◌-◌, length}
use Rattle.bac_lines.proofs.Hexes.{AreAdded}
use Rattle.bac_lines.proofs.scanning.octets.add_octets.Given as goal

abbrev pub invariant-loop-first : goal.invariant-loop-first
invariant-loop-first l = AreAdded l.line l.taken l.fn.contents.items l.contents.items

abbrev pub decreases-loop-first : goal.decreases-loop-first
decreases-loop-first l = length l.line - l.taken
