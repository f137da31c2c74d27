use Rattle.bac_message.proofs.GatherLemmas.{fault_of_all, has_rest}
use Rattle.bac_message.proofs.record_fronts.fault_before.Goals as goal

pub returns-in-Ok : goal.returns-in-Ok
returns-in-Ok c = λ records h. fault_of_all c.args.count records c.args.rest.now c.args.fault h c.in-Ok.ensures.spelled

pub returns-in-Err : goal.returns-in-Err
returns-in-Err c = λ records h. c.in-Err.ensures.fault records (has_rest c.args.count records c.args.rest.now c.args.fault h)
