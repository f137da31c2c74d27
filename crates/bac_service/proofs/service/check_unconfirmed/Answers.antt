use Rattle.bac_service.proofs.service.check_unconfirmed.Goals as goal

pub returns-in-0 : goal.returns-in-0
returns-in-0 c = rw c.in-0.is c.check_small.ensures

pub returns-in-2 : goal.returns-in-2
returns-in-2 c = rw c.in-2.is c.check_notification.ensures

pub returns-in-8 : goal.returns-in-8
returns-in-8 c = rw c.in-8.is c.check_small-in-8.ensures
