use Rattle.std.proofs.lemmas.Result.{on_ok_weaker}
use Rattle.bac_productions.specs.Laws.Least.{appends_joined, extends_more}
use Rattle.bac_productions.proofs.pair.Tuple2Production.write.Goals as goal

pub returns-clause-ok : goal.returns-clause-ok
returns-clause-ok g c = on_ok_weaker c.write-2.result (λ second. appends_joined c.in_ok-write.ensures.ok second) c.write-2.ensures.ok

pub returns-clause-kept : goal.returns-clause-kept
returns-clause-kept g c = extends_more _ _ _ c.in_ok-write.ensures.kept c.write-2.ensures.kept
