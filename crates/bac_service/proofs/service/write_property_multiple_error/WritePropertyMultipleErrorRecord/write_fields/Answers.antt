use Rattle.bac_service.proofs.service.write_property_multiple_error.WritePropertyMultipleErrorRecord.write_fields.Goals as goal

pub returns-clause-ok : goal.returns-clause-ok
returns-clause-ok c = rw c.number_under.ensures at c.write.ensures.ok
