use Rattle.std.proofs.Common.{arith}
use Rattle.std.proofs.lemmas.Result.{err_from_is_err_and}
use Rattle.bac_service.specs.declared.kind.Kind.TheVariants.{Error}
use Rattle.bac_service.specs.ServiceTable.{service_error}
use Rattle.bac_service.specs.Laws.Service.{spelled_as, serves, never}
use Rattle.bac_service.specs.Laws.Decoded.{found_as, refused_as}
use Rattle.bac_service.proofs.named.decode_error.Goals as goal

pub returns : goal.returns
returns c =
    found_as Error c.args.choice c.args.octets.now _ _ (rw c.of.ensures (spelled_as Error c.args.choice service_error c.in_ok-cause.cause.0 (omega arith) c.requires)) c.in_ok-cause.ensures.found c.in_ok-cause.ensures.mark

pub returns-in_err-cause : goal.returns-in_err-cause
returns-in_err-cause c =
    let p = err_from_is_err_and c.from_residual.result c.from_residual.ensures.1 in
    rw (p.1, p.2) (refused_as Error c.args.choice c.args.octets.now _ (serves Error c.args.choice service_error (omega arith) c.requires) c.in_err-cause.ensures.refused (λ w. never (c.in_err-cause.ensures.memory w).1) c.in_err-cause.ensures.reasons)
