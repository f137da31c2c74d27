use Rattle.std.proofs.Common.{◌-◌, length}
use Rattle.bac_lines.proofs.Digits.{IsNumeral}
use Rattle.bac_lines.proofs.scanning.numbers.find_number.Given as goal

abbrev pub invariant-loop-digit : goal.invariant-loop-digit
invariant-loop-digit l = IsNumeral l.line l.taken l.number

abbrev pub decreases-loop-digit : goal.decreases-loop-digit
decreases-loop-digit l = length l.line - l.taken
