use Rattle.std.proofs.lemmas.Result.{err_from_is_err_and}
use Rattle.bac_npdu_parts.specs.Frames.{value_of}
use Rattle.bac_message.specs.Gathered.{table_in}
use Rattle.bac_message.specs.Messages.{heads_of}
use Rattle.bac_message.proofs.GatherLemmas.{first_is_none, have_first, joined_of, unjoined_of}
use Rattle.bac_message.proofs.record_joining.join_with_first.Goals as goal

pub returns-in_default-clause-fault : goal.returns-in_default-clause-fault
returns-in_default-clause-fault c =
    c.fault_before.ensures c.args.records.now (first_is_none c.args.records.now c.args.octets.now c.after_record-rest.result.now c.requires.first.0 (value_of c.args.first.now) c.requires.front c.after_record-rest.ensures c.requires.first.1 c.requires.first.2 c.in_default.ensures)

pub gather-requires-clause-first : goal.gather-requires-clause-first
gather-requires-clause-first c =
    have_first c.args.records.now c.args.octets.now c.requires.first.0 (heads_of (value_of c.args.first.now)) c.frames_have_one_value.ensures c.requires.front c.requires.first.1 c.requires.first.2

pub returns-in-Ok-clause-joined : goal.returns-in-Ok-clause-joined
returns-in-Ok-clause-joined c =
    joined_of c.args.records.now _ (heads_of (value_of c.args.first.now)) (table_in c.in_ok-gathering.gathering) c.in_ok-gathering.ensures.table c.in-Ok.ensures.ok

pub returns-in-Err-clause-fault : goal.returns-in-Err-clause-fault
returns-in-Err-clause-fault c =
    unjoined_of c.args.records.now (heads_of (value_of c.args.first.now)) (table_in c.in_ok-gathering.gathering) c.in-Err.fault c.in_ok-gathering.ensures.table c.in-Err.ensures.err
