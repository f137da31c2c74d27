use Rattle.std.proofs.lemmas.Result.{on_ok_weaker}
use Rattle.bac_productions.specs.Laws.Least.{appends_joined, extends_more}
use Rattle.bac_service.proofs.service.read_property_ack.ReadPropertyAckRecord.write_fields.Goals as goal

pub returns-clause-ok : goal.returns-clause-ok
returns-clause-ok c = on_ok_weaker c.write_open.result (λ last. appends_joined c.in_ok-write_object_property.ensures.ok last) c.write_open.ensures.ok

pub returns-clause-kept : goal.returns-clause-kept
returns-clause-kept c = extends_more _ _ _ c.in_ok-write_object_property.ensures.kept c.write_open.ensures.kept
