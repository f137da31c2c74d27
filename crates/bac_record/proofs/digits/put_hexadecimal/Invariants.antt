use Rattle.std.proofs.Common.{◌≡◌, ◌+◌, ◌*◌, ◌++◌, take}
use Rattle.bac_record.specs.Digits.{hexadecimal}
use Rattle.bac_record.proofs.digits.put_hexadecimal.Given as goal

abbrev pub invariant-loop-index : goal.invariant-loop-index
invariant-loop-index l = take (l.at + 2 * l.index) l.room ≡ take l.at l.fn.room ++ hexadecimal (take l.index l.octets)
