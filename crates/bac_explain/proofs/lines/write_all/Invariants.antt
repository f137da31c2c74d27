use Rattle.std.proofs.Common.{◌≡◌, ◌≤◌, ◌++◌, List, ℕ, length, take}
use Rattle.bac_explain.specs.Lines.{AreLines}
use Rattle.bac_explain.proofs.lines.write_all.Given as goal

-- The lines so far are those of the pieces so far.
abbrev pub invariant-loop-piece : goal.invariant-loop-piece
invariant-loop-piece l =
    (l.end ≤ length l.out.items) × ((lines : List ℕ) × (take l.end l.out.items ≡ take l.at l.fn.out.items ++ lines) × AreLines l.octets (take l.piece-index l.pieces) lines)
