use Rattle.std.proofs.lemmas.Result.{err_from_is_err_and}
use Rattle.bac_message.proofs.GatherLemmas.{refused_at, whole_records}
use Rattle.bac_message.proofs.record_joining.join_records.Goals as goal

pub returns-in_err-decoded-clause-fault : goal.returns-in_err-decoded-clause-fault
returns-in_err-decoded-clause-fault c =
    let p = err_from_is_err_and c.from_residual.result c.from_residual.ensures.1 in
    rw (p.1, p.2) (refused_at 0 c.args.records.now c.args.records.now c.in-Some.octets.now _ (whole_records c.args.records.now) c.in-Some.ensures c.in_err-decoded.ensures.fault)
