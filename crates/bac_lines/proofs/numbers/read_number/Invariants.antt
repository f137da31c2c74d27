use Rattle.std.proofs.Common.{◌≡◌, ◌≤◌, ◌-◌, length, take}
use Rattle.bac_text.specs.Words.{number}
use Rattle.bac_lines.proofs.numbers.read_number.Given as goal

abbrev pub invariant-loop-number : goal.invariant-loop-number
invariant-loop-number l = (l.number ≤ l.most) × ((l.taken ≤ length l.line) × ((take l.taken l.line ≡ number l.number) × (l.least ≤ l.number)))

abbrev pub decreases-loop-number : goal.decreases-loop-number
decreases-loop-number l = length l.line - l.taken
