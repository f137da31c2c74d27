use Rattle.std.proofs.Common.{◌≡◌, take}
use Rattle.bac_tag.proofs.marks.first_difference.Given as goal

abbrev pub invariant-loop-place : goal.invariant-loop-place
invariant-loop-place l = take l.place l.a ≡ take l.place l.b
