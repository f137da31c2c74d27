use Rattle.bac_npdu.proofs.MeaningLemmas.{checked_found, checked_refused, checked_memory, checked_reasons}
use Rattle.bac_npdu.proofs.frame_checking.check_frame.Goals as goal

pub returns-clause-found : goal.returns-clause-found
returns-clause-found c = checked_found c.args.octets.now c.check_any.result c.check_any.ensures

pub returns-clause-refused : goal.returns-clause-refused
returns-clause-refused c = checked_refused c.args.octets.now c.check_any.result c.check_any.ensures

pub returns-clause-memory : goal.returns-clause-memory
returns-clause-memory c = checked_memory c.args.octets.now c.check_any.result c.check_any.ensures

pub returns-clause-reasons : goal.returns-clause-reasons
returns-clause-reasons c = checked_reasons c.args.octets.now c.check_any.result c.check_any.ensures
