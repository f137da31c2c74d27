use Rattle.std.proofs.Common.{refl, arith}
use Rattle.std.proofs.lemmas.Result.{err_from_is_err_and}
use Rattle.bac_message.proofs.GatherLemmas.{none_farther, not_empty, one_farther, refused_farther, truncated_farther}
use Rattle.bac_message.proofs.record_fronts.check_rest.Goals as goal

pub loop-left-init : goal.loop-left-init
loop-left-init c = none_farther c.args.first c.args.rest.now

pub loop-left-preserved : goal.loop-left-preserved
loop-left-preserved c =
    one_farther c.args.first c.loop-left.index _ c.args.rest.now c.loop-left.left.now c.in-Some.octets.now c.after_record-left.result.now c.loop-left.invariant refl c.in-Some.ensures c.after_record-left.ensures c.in_ok-check.ensures.spelled

pub returns-in_default-clause-fault : goal.returns-in_default-clause-fault
returns-in_default-clause-fault c = λ records.
    truncated_farther c.args.first c.loop-left.index records c.args.rest.now c.loop-left.left.now c.loop-left.invariant (not_empty c.loop-left.left.now c.is_empty.result c.is_empty.ensures c.loop-left-test.true) c.in_default.ensures

pub returns-in_err-check-clause-fault : goal.returns-in_err-check-clause-fault
returns-in_err-check-clause-fault c =
    let p = err_from_is_err_and c.from_residual.result c.from_residual.ensures.1 in
    rw (p.1, p.2) (λ records. refused_farther c.args.first c.loop-left.index records c.args.rest.now c.loop-left.left.now c.in-Some.octets.now _ c.loop-left.invariant c.in-Some.ensures c.in_err-check.ensures.fault)
