use Rattle.bac_message.proofs.GatherLemmas.{is_nothing, none_at_all, not_empty, truncated_at, whole_records}
use Rattle.bac_message.proofs.record_joining.no_record.Goals as goal

pub returns-then-is_empty : goal.returns-then-is_empty
returns-then-is_empty c = none_at_all c.args.records.now (is_nothing c.args.records.now c.is_empty.result c.is_empty.ensures c.if-is_empty.true)

pub returns : goal.returns
returns c = truncated_at 0 c.args.records.now c.args.records.now (whole_records c.args.records.now) (not_empty c.args.records.now c.is_empty.result c.is_empty.ensures c.if-is_empty.false) c.requires
