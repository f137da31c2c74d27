use Rattle.std.proofs.Common.{refl, ap, ◌∙◌, [], zero-add}
use Rattle.bac_npdu_parts.specs.FrameHeads.{frame_with}
use Rattle.bac_npdu_parts.specs.Frames.{body_value}
use Rattle.bac_fields.specs.FrameFields.{frame_steps}
use Rattle.bac_fields.proofs.FramePlaces.{steps_fit}
use Rattle.bac_fields.proofs.ToldLemmas.{count-told, writes_where_it_fits, if_none}
use Rattle.bac_fields.proofs.appending.count_fields.Goals as goal

pub returns-clause-count : goal.returns-clause-count
returns-clause-count c = ap (λ pen. pen.count) c.in_ok-tell_frame.ensures.pen ∙ count-told (frame_steps (frame_with c.args.head.now (body_value c.args.body.now))) [] 0 0 ∙ zero-add _

pub returns-clause-fits : goal.returns-clause-fits
returns-clause-fits c = λ some. c.in_ok-tell_frame.ensures.fits

pub returns-in_err-tell_frame-clause-unfit : goal.returns-in_err-tell_frame-clause-unfit
returns-in_err-tell_frame-clause-unfit c = if_none c.from_residual.result (λ fits. writes_where_it_fits c.in_err-tell_frame.ensures refl (steps_fit (frame_with c.args.head.now (body_value c.args.body.now)) fits))
