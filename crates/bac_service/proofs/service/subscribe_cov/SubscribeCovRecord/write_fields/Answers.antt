use Rattle.std.proofs.lemmas.Result.{on_ok_weaker}
use Rattle.bac_service.specs.Laws.SubscribeCov.{appends_subscribe_cov}
use Rattle.bac_service.proofs.service.subscribe_cov.SubscribeCovRecord.write_fields.Goals as goal

pub returns-clause-ok : goal.returns-clause-ok
returns-clause-ok c =
    on_ok_weaker c.write.result
    (λ written. appends_subscribe_cov c.args.self.now c.boolean_of.result c.boolean_of.ensures (rw (c.new.ensures, c.under-confirmed.ensures, c.number_under-lifetime.ensures) at written))
    c.write.ensures.ok
