use Rattle.std.proofs.lemmas.Result.{err_from_is_err_and}
use Rattle.bac_message.proofs.RecordLemmas.{one_written, too_long_next}
use Rattle.bac_message.proofs.record_cutting.records_of.Goals as goal

pub loop-frame-preserved : goal.loop-frame-preserved
loop-frame-preserved c =
    one_written c.args.frames.now c.loop-frame.left.now c.in-Some.more.now c.in-Some.frame.now c.loop-frame.records.items c.append_frame.new.records.items c.loop-frame.invariant c.in-Some.ensures.cases.0 c.in_ok-append_frame.ensures.appended

pub returns-in_err-append_frame-clause-fault : goal.returns-in_err-append_frame-clause-fault
returns-in_err-append_frame-clause-fault c =
    let p = err_from_is_err_and c.from_residual.result c.from_residual.ensures.1 in
    rw (p.1, p.2) (too_long_next c.args.frames.now c.loop-frame.left.now c.in-Some.more.now c.in-Some.frame.now c.loop-frame.records.items _ c.loop-frame.invariant c.in-Some.ensures.cases.0 c.in_err-append_frame.ensures.fault)
