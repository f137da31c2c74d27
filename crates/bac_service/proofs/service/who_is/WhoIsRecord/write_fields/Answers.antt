use Rattle.bac_service.proofs.service.who_is.WhoIsRecord.write_fields.Goals as goal

pub returns-in-Some-clause-ok : goal.returns-in-Some-clause-ok
returns-in-Some-clause-ok c = rw c.in-Some.is c.write.ensures.ok
