use Rattle.std.proofs.Common.{◌-◌, length}
use Rattle.bac_data.proofs.CheckingLemmas.{Checking}
use Rattle.bac_data.proofs.checking.check_any.Given as goal

-- the octets up to the place are an opening tag and events, with this mark
abbrev pub invariant-loop-found : goal.invariant-loop-found
invariant-loop-found l = Checking l.number l.octets l.place l.groups.items l.mark

abbrev pub decreases-loop-found : goal.decreases-loop-found
decreases-loop-found l = length l.octets - l.place
