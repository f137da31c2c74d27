use Rattle.std.proofs.Common.{◌≡◌, ◌++◌, length, drop, refl, sym, ap, ◌∙◌, zero-add, arith}
use Rattle.bac_npdu_parts.specs.FrameHeads.{frame_with}
use Rattle.bac_npdu_parts.specs.Frames.{body_value}
use Rattle.bac_fields.specs.FrameFields.{frame_steps, placed_fields}
use Rattle.bac_fields.proofs.FramePlaces.{steps_fit}
use Rattle.bac_fields.proofs.ToldLemmas.{count-told, writes_all, writes_where_it_fits, if_none}
use Rattle.bac_fields.proofs.appending.write_fields_at_once.Goals as goal

pub returns-clause-count : goal.returns-clause-count
returns-clause-count c = ap (λ pen. pen.count) c.in_ok-tell_frame.ensures.pen ∙ count-told (frame_steps (frame_with c.args.head.now (body_value c.args.body.now))) c.args.room.now 0 0 ∙ zero-add _

pub returns-clause-written : goal.returns-clause-written
returns-clause-written c = λ fit.
    let fields = placed_fields (frame_with c.args.head.now (body_value c.args.body.now)) in
    let count : c.in_ok-tell_frame.field-0.count ≡ length fields = returns-clause-count c in
    writes_all c.in_ok-tell_frame.ensures refl (omega (arith, fit, count)) ∙ ap (λ n. fields ++ drop n c.args.room.now) (sym count)

pub returns-in_err-tell_frame-clause-unfit : goal.returns-in_err-tell_frame-clause-unfit
returns-in_err-tell_frame-clause-unfit c = if_none c.from_residual.result (λ fits. writes_where_it_fits c.in_err-tell_frame.ensures refl (steps_fit (frame_with c.args.head.now (body_value c.args.body.now)) fits))
