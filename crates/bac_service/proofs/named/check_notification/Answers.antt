use Rattle.std.proofs.lemmas.Result.{IfErr-weaker}
use Rattle.bac_service.specs.ServiceTable.{cov_notification}
use Rattle.bac_service.specs.Services.{notification_kind, notification_choice}
use Rattle.bac_service.specs.Laws.Checked.{checked_as}
use Rattle.bac_service.specs.Laws.Service.{serves, never, notification_fits, notification_production}
use Rattle.bac_service.proofs.named.check_notification.Goals as goal

pub returns : goal.returns
returns c =
    let kind = notification_kind c.args.confirmed in
    let choice = notification_choice c.args.confirmed in
    let e = c.check.ensures in
    checked_as kind choice c.args.octets.now c.check.result (serves kind choice cov_notification (notification_fits c.args.confirmed) (notification_production c.args.confirmed)) e.found e.refused
    (IfErr-weaker c.check.result _ _ (λ refusal h w. never (h w).1) e.memory) e.reasons
