use Rattle.std.proofs.lemmas.List.{map-id}
use Rattle.std.proofs.lemmas.Result.{on_ok_weaker}
use Rattle.bac_productions.specs.Laws.Least.{appends_joined, extends_more}
use Rattle.bac_service.proofs.service.read_property_multiple.ReadAccessSpecificationRecord.write_fields.Goals as goal

pub returns-clause-ok : goal.returns-clause-ok
returns-clause-ok c = on_ok_weaker c.write_group.result (λ last. appends_joined c.in_ok-write.ensures.ok (rw map-id at last)) c.write_group.ensures.ok

pub returns-clause-kept : goal.returns-clause-kept
returns-clause-kept c = extends_more _ _ _ c.in_ok-write.ensures.kept c.write_group.ensures.kept
