use Rattle.bac_service.proofs.service.object_property.write_object_property.Goals as goal

pub returns-clause-ok : goal.returns-clause-ok
returns-clause-ok c = rw c.number_under.ensures at c.write.ensures.ok
