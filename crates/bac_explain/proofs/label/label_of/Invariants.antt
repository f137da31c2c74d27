use Rattle.std.proofs.Common.{length}
use Rattle.bac_explain.proofs.LabelLemmas.{Finds}
use Rattle.bac_explain.proofs.label.label_of.Given as goal

-- A label of the rest is one of all.
abbrev pub invariant-loop-field : goal.invariant-loop-field
invariant-loop-field l = Finds l.piece l.fields l.rest

abbrev pub decreases-loop-field : goal.decreases-loop-field
decreases-loop-field l = length l.rest
