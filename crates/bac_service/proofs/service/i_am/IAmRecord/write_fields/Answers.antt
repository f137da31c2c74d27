use Rattle.bac_service.proofs.service.i_am.IAmRecord.write_fields.Goals as goal

pub returns-clause-ok : goal.returns-clause-ok
returns-clause-ok c = rw (c.new.ensures, c.new-2.ensures) at c.write.ensures.ok
