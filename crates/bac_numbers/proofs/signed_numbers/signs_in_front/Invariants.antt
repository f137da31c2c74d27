use Rattle.std.proofs.Common.{ℕ, ◌<◌, ◌+◌, get_or}
use Rattle.bac_numbers.specs.SignedContents.{RepeatsSign}
use Rattle.bac_numbers.proofs.signed_numbers.signs_in_front.Given as goal

abbrev pub invariant-loop-start : goal.invariant-loop-start
invariant-loop-start l = (k : ℕ) → k < l.start → RepeatsSign (get_or l.octets k 0) (get_or l.octets (k + 1) 0)
