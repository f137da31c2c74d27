use Rattle.bac_service.proofs.service.check_complex_ack.Goals as goal

pub returns-in-12 : goal.returns-in-12
returns-in-12 c = rw c.in-12.is c.check_named.ensures

pub returns-in-14 : goal.returns-in-14
returns-in-14 c = rw c.in-14.is c.check_list.ensures
