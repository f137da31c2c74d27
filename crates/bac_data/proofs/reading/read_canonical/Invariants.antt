use Rattle.std.proofs.Common.{◌≡◌, ◌≤◌, ◌-◌, ℕ, List, length}
use Rattle.bac_data.specs.Events.{Event}
use Rattle.bac_data.specs.Listings.{Lists}
use Rattle.bac_data.specs.Progress.{Continues}
use Rattle.bac_data.proofs.reading.read_canonical.Given as goal

-- up to the place there are canonical octets of events, which are listed
abbrev pub invariant-loop-item : goal.invariant-loop-item
invariant-loop-item l = (l.from ≤ l.place) × (l.place ≤ length l.octets)
    × ((es : List Event) (canonical numbers : List ℕ) → Lists l.number l.fn.nodes es canonical numbers → length canonical ≡ l.held → Continues l.number l.octets l.from l.place l.nodes es canonical)

abbrev pub decreases-loop-item : goal.decreases-loop-item
decreases-loop-item l = length l.octets - l.place
