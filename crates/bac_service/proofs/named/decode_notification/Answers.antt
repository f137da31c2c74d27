use Rattle.std.proofs.lemmas.Result.{err_from_is_err_and}
use Rattle.bac_service.specs.CovNotification.{notification_of}
use Rattle.bac_service.specs.ServiceTable.{cov_notification}
use Rattle.bac_service.specs.Services.{notification_kind, notification_choice}
use Rattle.bac_service.specs.Laws.Service.{spelled_as, serves, notification_fits, notification_production, notification_large}
use Rattle.bac_service.specs.Laws.Decoded.{found_as, refused_as}
use Rattle.bac_service.proofs.named.decode_notification.Goals as goal

pub returns : goal.returns
returns c =
    found_as (notification_kind c.args.confirmed) (notification_choice c.args.confirmed) c.args.octets.now _ _
    (spelled_as (notification_kind c.args.confirmed) (notification_choice c.args.confirmed) cov_notification (notification_of c.in_ok-notification.notification.0) (notification_fits c.args.confirmed) (notification_production c.args.confirmed))
    c.in_ok-notification.ensures.found c.in_ok-notification.ensures.mark

pub returns-in_err-notification : goal.returns-in_err-notification
returns-in_err-notification c =
    let p = err_from_is_err_and c.from_residual.result c.from_residual.ensures.1 in
    rw (p.1, p.2) (refused_as (notification_kind c.args.confirmed) (notification_choice c.args.confirmed) c.args.octets.now _
    (serves (notification_kind c.args.confirmed) (notification_choice c.args.confirmed) cov_notification (notification_fits c.args.confirmed) (notification_production c.args.confirmed))
    c.in_err-notification.ensures.refused (λ w. ((c.in_err-notification.ensures.memory w).0, notification_large c.args.confirmed)) c.in_err-notification.ensures.reasons)
