use Rattle.std.proofs.Common.{◌-◌, length}
use Rattle.bac_explain.proofs.NestEndLemmas.{IsSearched}
use Rattle.bac_explain.proofs.nests.is_nest.Given as goal

-- The octets so far are elements.
abbrev pub invariant-loop-place : goal.invariant-loop-place
invariant-loop-place l = IsSearched l.octets l.from l.place l.groups.items

abbrev pub decreases-loop-place : goal.decreases-loop-place
decreases-loop-place l = length l.octets - l.place
