use Rattle.std.proofs.Common.{◌≡◌, ◌≤◌, ◌++◌, List, ℕ, [], length, take}
use Rattle.bac_explain.proofs.LineLemmas.{Continues}
use Rattle.bac_explain.proofs.named_lines.write_canonical_lines.Given as goal

-- The lines so far, with those of the pieces that are left, are the lines of all.
abbrev pub invariant-loop-piece : goal.invariant-loop-piece
invariant-loop-piece l =
    (l.end ≤ length l.out.items) × ((done : List ℕ) × (take l.end l.out.items ≡ take l.at l.fn.out.items ++ done) × Continues l.octets l.octets l.fields [] l.pieces l.pieces l.ahead l.left l.left done)

abbrev pub decreases-loop-piece : goal.decreases-loop-piece
decreases-loop-piece l = length l.left
