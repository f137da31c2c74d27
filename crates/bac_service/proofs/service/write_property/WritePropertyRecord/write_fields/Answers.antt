use Rattle.std.proofs.lemmas.Result.{on_ok_weaker}
use Rattle.bac_productions.specs.Laws.Least.{appends_joined, extends_more}
use Rattle.bac_service.proofs.service.write_property.WritePropertyRecord.write_fields.Goals as goal

pub returns-clause-ok : goal.returns-clause-ok
returns-clause-ok c =
    on_ok_weaker c.write.result (λ last. appends_joined c.in_ok-write_object_property.ensures.ok (appends_joined c.in_ok-write_open.ensures.ok (rw c.under.ensures at last))) c.write.ensures.ok

pub returns-clause-kept : goal.returns-clause-kept
returns-clause-kept c = extends_more _ _ _ c.in_ok-write_object_property.ensures.kept (extends_more _ _ _ c.in_ok-write_open.ensures.kept c.write.ensures.kept)

pub returns-in_err-write_open-clause-kept : goal.returns-in_err-write_open-clause-kept
returns-in_err-write_open-clause-kept c = extends_more _ _ _ c.in_ok-write_object_property.ensures.kept c.in_err-write_open.ensures.kept
