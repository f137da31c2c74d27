use Rattle.std.proofs.Common.{◌≡◌, ◌+◌, ◌++◌, replicate, take}
use Rattle.bac_explain.proofs.appending.put_each_blank.Given as goal

-- As many blanks so far as turns.
abbrev pub invariant-loop-index : goal.invariant-loop-index
invariant-loop-index l = take (l.at + l.index) l.room ≡ take l.at l.fn.room ++ replicate l.index 32
