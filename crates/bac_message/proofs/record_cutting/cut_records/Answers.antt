use Rattle.std.proofs.Common.{List, map, subst, sym}
use Rattle.std.proofs.lemmas.Result.{err_from_is_err_and}
use Rattle.bac_npdu_parts.specs.declared.frame.Frame.{Frame}
use Rattle.bac_npdu_parts.specs.Frames.{value_of}
use Rattle.bac_message.specs.CutFrames.{IsCutFrame}
use Rattle.bac_message.proofs.RecordLemmas.{long_or_memory}
use Rattle.bac_message.proofs.record_cutting.cut_records.Goals as goal

pub returns-in_err-frame-clause-fault : goal.returns-in_err-frame-clause-fault
returns-in_err-frame-clause-fault c =
    let p = err_from_is_err_and c.from_residual.result c.from_residual.ensures.1 in
    rw (p.1, p.2) (c.in_err-frame.ensures.fault c.args.size c.args.window)

pub returns-in_err-frames-clause-fault : goal.returns-in_err-frames-clause-fault
returns-in_err-frames-clause-fault c =
    let p = err_from_is_err_and c.from_residual-in_err-frames.result c.from_residual-in_err-frames.ensures.1 in
    rw (p.1, p.2) (c.in_err-frames.ensures.fault c.args.octets.now c.in_ok-frame.ensures.spelled)

pub returns-clause-fault : goal.returns-clause-fault
returns-clause-fault c =
    let cut = subst (λ (l : List Frame). IsCutFrame (value_of c.in_ok-frame.frame) c.args.size c.args.window (map value_of l)) (sym c.deref.ensures.value) c.in_ok-frames.ensures.cut in
    long_or_memory c.args.octets.now c.args.size c.args.window (value_of c.in_ok-frame.frame) (map value_of c.deref.result.now) c.records_of.result c.in_ok-frame.ensures.spelled cut c.records_of.ensures.fault
