use Rattle.bac_service.proofs.service.check_confirmed.Goals as goal

pub returns-in-1 : goal.returns-in-1
returns-in-1 c = rw c.in-1.is c.check_notification.ensures

pub returns-in-5 : goal.returns-in-5
returns-in-5 c = rw c.in-5.is c.check_small.ensures

pub returns-in-12 : goal.returns-in-12
returns-in-12 c = rw c.in-12.is c.check_small-in-12.ensures

pub returns-in-14 : goal.returns-in-14
returns-in-14 c = rw c.in-14.is c.check_list.ensures

pub returns-in-15 : goal.returns-in-15
returns-in-15 c = rw c.in-15.is c.check_named.ensures

pub returns-in-16 : goal.returns-in-16
returns-in-16 c = rw c.in-16.is c.check_list-in-16.ensures
