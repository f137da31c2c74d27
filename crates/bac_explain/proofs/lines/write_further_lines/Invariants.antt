use Rattle.std.proofs.Common.{◌≡◌, ◌≤◌, ◌++◌, length, take}
use Rattle.bac_explain.specs.Lines.{further_lines}
use Rattle.bac_explain.proofs.lines.write_further_lines.Given as goal

-- The lines so far are as many as the turns.
abbrev pub invariant-loop-row : goal.invariant-loop-row
invariant-loop-row l = (l.end ≤ length l.out.items) × (take l.end l.out.items ≡ take l.at l.fn.out.items ++ further_lines l.piece l.own l.row)
