use Rattle.bac_service.proofs.service.check_failure.Goals as goal

pub returns-in-16 : goal.returns-in-16
returns-in-16 c = rw c.in-16.is c.check_small.ensures
