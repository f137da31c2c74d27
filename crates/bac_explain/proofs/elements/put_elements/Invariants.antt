use Rattle.std.proofs.Common.{◌-◌, length}
use Rattle.bac_explain.proofs.ElementLemmas.{IsWalked}
use Rattle.bac_explain.proofs.elements.put_elements.Given as goal

-- The pieces so far are those of the octets up to the cursor.
abbrev pub invariant-loop-cursor : goal.invariant-loop-cursor
invariant-loop-cursor l = IsWalked l.typed l.octets l.initial.cursor.place l.initial.room l.initial.cursor.count l.depth l.cursor.place l.room l.cursor.count

abbrev pub decreases-loop-cursor : goal.decreases-loop-cursor
decreases-loop-cursor l = length l.octets - l.cursor.place
