use Rattle.std.proofs.Common.{◌-◌, length}
use Rattle.bac_data.specs.Progress.{Progress}
use Rattle.bac_data.proofs.reading.read_rest.Given as goal

-- the octets up to the place are an opening tag and events, which are listed
abbrev pub invariant-loop-found : goal.invariant-loop-found
invariant-loop-found l = Progress l.number l.octets l.start l.place l.kept l.mark l.nodes

abbrev pub decreases-loop-found : goal.decreases-loop-found
decreases-loop-found l = length l.octets - l.place
