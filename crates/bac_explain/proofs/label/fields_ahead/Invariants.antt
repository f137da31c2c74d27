use Rattle.std.proofs.Common.{◌≡◌, length}
use Rattle.bac_explain.specs.Labels.{ahead}
use Rattle.bac_explain.proofs.label.fields_ahead.Given as goal

-- What is ahead of the rest is what is ahead of all.
abbrev pub invariant-loop-field : goal.invariant-loop-field
invariant-loop-field l = ahead l.piece l.rest ≡ ahead l.piece l.fields

abbrev pub decreases-loop-field : goal.decreases-loop-field
decreases-loop-field l = length l.rest
