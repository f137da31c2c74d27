use Rattle.std.proofs.Common.{◌≡◌, ◌+◌, ◌++◌, take}
use Rattle.bac_record.proofs.digits.put_word.Given as goal

abbrev pub invariant-loop-index : goal.invariant-loop-index
invariant-loop-index g l = take (l.at + l.index) l.room ≡ take l.at l.fn.room ++ take l.index l.word
