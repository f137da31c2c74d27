use Rattle.std.proofs.Common.{◌-◌, ◌≤◌, length}
use Rattle.bac_explain.specs.Completions.{SameOctets}
use Rattle.bac_explain.proofs.named_refusal.same_pieces.Given as goal

-- The pieces so far have the same octets.
abbrev pub invariant-loop-count : goal.invariant-loop-count
invariant-loop-count l = (l.count ≤ length l.pieces) × SameOctets l.count l.pieces l.others

abbrev pub decreases-loop-count : goal.decreases-loop-count
decreases-loop-count l = length l.pieces - l.count
