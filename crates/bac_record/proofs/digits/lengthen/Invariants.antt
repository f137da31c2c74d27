use Rattle.std.proofs.Common.{◌+◌, ◌-◌, length}
use Rattle.bac_tag.specs.Octets.{Extends}
use Rattle.bac_record.proofs.digits.lengthen.Given as goal

abbrev pub invariant-loop-out : goal.invariant-loop-out
invariant-loop-out l = Extends l.fn.out.items l.out.items

abbrev pub decreases-loop-out : goal.decreases-loop-out
decreases-loop-out l = l.at + l.room - length l.out.items
