use Rattle.std.proofs.Common.{◌≡◌, ◌≤◌, ◌++◌, List, ℕ, length, take}
use Rattle.bac_explain.proofs.LineLemmas.{Continues}
use Rattle.bac_explain.proofs.named_lines.write_named_lines.Given as goal

-- The lines so far, with those of the pieces that are left, are the lines of all.
abbrev pub invariant-loop-piece : goal.invariant-loop-piece
invariant-loop-piece l =
    (l.end ≤ length l.out.items) × ((done : List ℕ) × (take l.end l.out.items ≡ take l.at l.fn.out.items ++ done) × Continues l.octets l.canonical l.fields l.hint l.pieces l.others l.ahead l.left l.right done)

abbrev pub decreases-loop-piece : goal.decreases-loop-piece
decreases-loop-piece l = length l.left
