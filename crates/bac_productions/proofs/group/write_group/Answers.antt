use Rattle.std.proofs.lemmas.Result.{on_ok_weaker}
use Rattle.bac_productions.specs.Laws.Least.{appends_joined, extends_more}
use Rattle.bac_productions.proofs.group.write_group.Goals as goal

pub returns-clause-ok : goal.returns-clause-ok
returns-clause-ok g c = on_ok_weaker c.write-3.result (λ last. appends_joined c.in_ok-write.ensures.ok (appends_joined c.in_ok-write-2.ensures.ok last)) c.write-3.ensures.ok

pub returns-clause-kept : goal.returns-clause-kept
returns-clause-kept g c = extends_more _ _ _ c.in_ok-write.ensures.kept (extends_more _ _ _ c.in_ok-write-2.ensures.kept c.write-3.ensures.kept)

pub returns-in_err-write-2-clause-kept : goal.returns-in_err-write-2-clause-kept
returns-in_err-write-2-clause-kept g c = extends_more _ _ _ c.in_ok-write.ensures.kept c.in_err-write-2.ensures.kept
