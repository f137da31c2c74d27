use Rattle.std.proofs.lemmas.List.{map-id}
use Rattle.std.proofs.lemmas.Result.{on_ok_weaker}
use Rattle.bac_productions.specs.Laws.Least.{appends_joined, appends_nothing, extends_more}
use Rattle.bac_service.proofs.service.read_property_multiple_ack.ReadAccessResultRecord.write_fields.Goals as goal

pub returns-in-Some-clause-ok : goal.returns-in-Some-clause-ok
returns-in-Some-clause-ok c = on_ok_weaker c.write_group.result (λ last. appends_joined c.in_ok-write.ensures.ok (rw c.in-Some.is (rw map-id at last))) c.write_group.ensures.ok

pub returns-in-None-clause-ok : goal.returns-in-None-clause-ok
returns-in-None-clause-ok c = appends_joined c.in_ok-write.ensures.ok (rw c.in-None.is (appends_nothing _))

pub returns-in-Some-clause-kept : goal.returns-in-Some-clause-kept
returns-in-Some-clause-kept c = extends_more _ _ _ c.in_ok-write.ensures.kept c.write_group.ensures.kept
