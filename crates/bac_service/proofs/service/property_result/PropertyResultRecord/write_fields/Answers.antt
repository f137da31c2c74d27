use Rattle.std.proofs.lemmas.Result.{on_ok_weaker}
use Rattle.bac_productions.specs.Laws.Least.{appends_joined, extends_more}
use Rattle.bac_service.proofs.service.property_result.PropertyResultRecord.write_fields.Goals as goal

pub returns-in-Value-clause-ok : goal.returns-in-Value-clause-ok
returns-in-Value-clause-ok c =
    on_ok_weaker c.write_open.result (λ last. appends_joined c.in_ok-write.ensures.ok (appends_joined (rw c.number_under.ensures at c.in_ok-write-2.ensures.ok) (rw c.in-Value.is last))) c.write_open.ensures.ok

pub returns-in-Error-clause-ok : goal.returns-in-Error-clause-ok
returns-in-Error-clause-ok c =
    on_ok_weaker c.write_group.result (λ last. appends_joined c.in_ok-write.ensures.ok (appends_joined (rw c.number_under.ensures at c.in_ok-write-2.ensures.ok) (rw c.in-Error.is last))) c.write_group.ensures.ok

pub returns-in-Value-clause-kept : goal.returns-in-Value-clause-kept
returns-in-Value-clause-kept c = extends_more _ _ _ c.in_ok-write.ensures.kept (extends_more _ _ _ c.in_ok-write-2.ensures.kept c.write_open.ensures.kept)

pub returns-in-Error-clause-kept : goal.returns-in-Error-clause-kept
returns-in-Error-clause-kept c = extends_more _ _ _ c.in_ok-write.ensures.kept (extends_more _ _ _ c.in_ok-write-2.ensures.kept c.write_group.ensures.kept)

pub returns-in_err-write-2-clause-kept : goal.returns-in_err-write-2-clause-kept
returns-in_err-write-2-clause-kept c = extends_more _ _ _ c.in_ok-write.ensures.kept c.in_err-write-2.ensures.kept
