use Rattle.std.proofs.Common.{◌-◌, length}
use Rattle.bac_lines.proofs.Hexes.{IsHexRead}
use Rattle.bac_lines.proofs.scanning.octets.find_bits.Given as goal

abbrev pub invariant-loop-first : goal.invariant-loop-first
invariant-loop-first l = IsHexRead l.line l.taken l.number

abbrev pub decreases-loop-first : goal.decreases-loop-first
decreases-loop-first l = length l.line - l.taken
