use Rattle.bac_service.proofs.service_checking.check_service.Goals as goal

pub returns-in-Confirmed : goal.returns-in-Confirmed
returns-in-Confirmed c = rw c.in-Confirmed.is c.check_confirmed.ensures

pub returns-in-Unconfirmed : goal.returns-in-Unconfirmed
returns-in-Unconfirmed c = rw c.in-Unconfirmed.is c.check_unconfirmed.ensures

pub returns-in-ComplexAck : goal.returns-in-ComplexAck
returns-in-ComplexAck c = rw c.in-ComplexAck.is c.check_complex_ack.ensures

pub returns-in-Error : goal.returns-in-Error
returns-in-Error c = rw c.in-Error.is c.check_failure.ensures
