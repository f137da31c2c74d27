use Rattle.std.proofs.Common.{refl}
use Rattle.bac_message.proofs.RecordLemmas.{checked_none}
use Rattle.bac_message.proofs.record_fronts.check.Goals as goal

pub returns-in-Ok-clause-spelled : goal.returns-in-Ok-clause-spelled
returns-in-Ok-clause-spelled c = let marked = c.in-Ok.ensures.found in (marked.value, marked.spelled)

pub returns-in-Err-clause-fault : goal.returns-in-Err-clause-fault
returns-in-Err-clause-fault c = let e = c.in-Err.ensures in (c.in-Err.refusal, refl, checked_none c.args.octets.now c.in-Err.refusal e.memory e.refused e.reasons)
