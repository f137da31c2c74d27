use Rattle.std.proofs.Common.{◌≡◌, ◌≤◌, ◌++◌, List, ℕ, length, take}
use Rattle.bac_explain.proofs.LineLemmas.{DataContinues}
use Rattle.bac_explain.proofs.named_lines.write_data.Given as goal

-- The lines so far, with those of what is left, are the lines of all of the data.
abbrev pub invariant-loop-field : goal.invariant-loop-field
invariant-loop-field l =
    (l.end ≤ length l.out.items) × (l.place ≤ l.to) × ((done : List ℕ) × (take l.end l.out.items ≡ take l.at l.fn.out.items ++ done) × DataContinues l.octets l.canonical l.fields l.from l.to l.place l.left l.rest done)

abbrev pub decreases-loop-field : goal.decreases-loop-field
decreases-loop-field l = length l.rest
