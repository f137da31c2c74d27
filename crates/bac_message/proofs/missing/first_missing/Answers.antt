use Rattle.std.proofs.Common.{ℕ, Bool, Option, List, [], ◌∷◌, ◌++◌, map, take, refl, sym, ap, subst, ◌∙◌}
use Rattle.std.proofs.lemmas.List.{take_all}
use Rattle.std.specs.Option.{unwrap_or}
use Rattle.bac_npdu_parts.specs.declared.frame.Frame.{Frame}
use Rattle.bac_npdu_parts.specs.Frames.{FrameValue, value_of}
use Rattle.bac_segment.specs.Deliveries.{delivery}
use Rattle.bac_message.proofs.FitLemmas.{values_more}
use Rattle.bac_message.proofs.MissingLemmas.{AreMarks, no_marks, marks_more, marks_kept, first_is}
use Rattle.bac_message.proofs.missing.first_missing.Goals as goal
use Rattle.bac_message.proofs.missing.first_missing.Goals.{in-Some, in_default}

pub loop-frame-init : goal.loop-frame-init
loop-frame-init c = no_marks _ refl

pub loop-frame-preserved : goal.loop-frame-preserved
loop-frame-preserved c =
    let frames = c.args.frames.now in
    let i = c.loop-frame.frame-index in
    let frame = c.frame-item.result in
    subst (λ (l : List FrameValue). AreMarks c.match-segment_of.there l) (sym (values_more frames i frame c.loop-frame-test.true c.frame-item.is))
    (elim c.match-segment_of.branch [
      | in-Some w ↦ marks_more c.loop-frame.there c.match-segment_of.there (map value_of (take i frames)) (value_of frame) (delivery w.in-Some.segment.now) w.in-Some.segment.now.seq c.loop-frame.invariant w.in-Some.ensures refl w.mark.ensures.small (w.there-is ∙ w.mark.ensures.set)
      | in_default w ↦ subst (λ (t : List Bool). AreMarks t (map value_of (take i frames) ++ value_of frame ∷ [])) (sym w.there-is) (marks_kept c.loop-frame.there (map value_of (take i frames)) (value_of frame) c.loop-frame.invariant w.in_default.ensures)
    ])

pub returns : goal.returns
returns c =
    first_is c.loop-frame.there (map value_of c.args.frames.now) c.unwrap_or.result (subst (λ (l : List Frame). AreMarks c.loop-frame.there (map value_of l)) (take_all c.loop-frame.frame-index c.args.frames.now c.loop-frame-test.false) c.loop-frame.invariant)
    (c.unwrap_or.ensures ∙ ap (λ (o : Option ℕ). unwrap_or o 256) c.first_false.ensures)
