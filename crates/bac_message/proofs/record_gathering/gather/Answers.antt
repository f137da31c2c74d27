use Rattle.std.proofs.Common.{refl}
use Rattle.std.proofs.lemmas.Result.{err_from_is_err_and}
use Rattle.bac_npdu_parts.specs.Frames.{value_of}
use Rattle.bac_message.specs.Gathered.{table_in}
use Rattle.bac_message.specs.Messages.{heads_of}
use Rattle.bac_message.proofs.GatherLemmas.{all_gathered, gathered_rest, is_nothing, next_gathered, next_misfit, none_gathered, not_empty, refused_at, truncated_at}
use Rattle.bac_message.proofs.record_gathering.gather.Goals as goal

pub loop-rest-init : goal.loop-rest-init
loop-rest-init c = record { gathered = c.new-gathering.ensures.gathered; far = none_gathered c.args.records.now (heads_of (value_of c.args.first.now)) (table_in c.new-gathering.result) c.new-gathering.ensures.empty }

pub loop-rest-preserved : goal.loop-rest-preserved
loop-rest-preserved c = record {
  gathered = c.in_ok-misfit.ensures.gathered;
  far = next_gathered c.args.records.now (heads_of (value_of c.args.first.now)) c.loop-rest.count _ c.loop-rest.rest.now c.in-Some.octets.now c.after_record-rest.result.now (table_in c.loop-rest.gathering) (table_in c.gather_record.new.gathering) c.in_ok-misfit.misfit
      c.loop-rest.invariant.far refl c.in-Some.ensures c.after_record-rest.ensures c.in_ok-misfit.ensures.read c.in_default-misfit.is;
}

pub returns-in_default-clause-fault : goal.returns-in_default-clause-fault
returns-in_default-clause-fault c =
    let has = gathered_rest c.args.records.now (heads_of (value_of c.args.first.now)) c.loop-rest.count c.loop-rest.rest.now (table_in c.loop-rest.gathering) c.loop-rest.invariant.far in
    truncated_at c.loop-rest.count c.args.records.now c.loop-rest.rest.now has (not_empty c.loop-rest.rest.now c.is_empty.result c.is_empty.ensures c.loop-rest-test.true) c.in_default.ensures

pub returns-in_err-misfit-clause-fault : goal.returns-in_err-misfit-clause-fault
returns-in_err-misfit-clause-fault c =
    let p = err_from_is_err_and c.from_residual.result c.from_residual.ensures.1 in
    let has = gathered_rest c.args.records.now (heads_of (value_of c.args.first.now)) c.loop-rest.count c.loop-rest.rest.now (table_in c.loop-rest.gathering) c.loop-rest.invariant.far in
    rw (p.1, p.2) (refused_at c.loop-rest.count c.args.records.now c.loop-rest.rest.now c.in-Some.octets.now _ has c.in-Some.ensures c.in_err-misfit.ensures.fault)

pub returns-in-Some-misfit-clause-fault : goal.returns-in-Some-misfit-clause-fault
returns-in-Some-misfit-clause-fault c =
    c.fault_before.ensures c.args.records.now (next_misfit c.args.records.now (heads_of (value_of c.args.first.now)) c.loop-rest.count _ c.loop-rest.rest.now c.in-Some.octets.now c.after_record-rest.result.now (table_in c.loop-rest.gathering) (table_in c.gather_record.new.gathering)
    c.in_ok-misfit.misfit c.in-Some-misfit.fault c.loop-rest.invariant.far c.requires.first refl c.in-Some.ensures c.after_record-rest.ensures c.in_ok-misfit.ensures.read c.in-Some-misfit.is)

pub returns-clause-table : goal.returns-clause-table
returns-clause-table c =
    all_gathered c.args.records.now (heads_of (value_of c.args.first.now)) c.loop-rest.count c.loop-rest.rest.now (table_in c.loop-rest.gathering) c.loop-rest.invariant.far c.requires.first (is_nothing c.loop-rest.rest.now c.is_empty.result c.is_empty.ensures c.loop-rest-test.false)
