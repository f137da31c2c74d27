use Rattle.std.proofs.Common.{ap}
use Rattle.std.proofs.lemmas.Result.{err_from_is_err_and}
use Rattle.bac_service.specs.declared.kind.Kind.TheVariants.{Error}
use Rattle.bac_service.specs.ServiceTable.{is_small_production}
use Rattle.bac_service.specs.Laws.Checked.{checked_small, refused_small}
use Rattle.bac_service.proofs.named.check_error.Goals as goal

pub returns : goal.returns
returns c = checked_small Error c.args.choice c.args.octets.now _ c.in_ok-mark.mark c.in_ok-mark.ensures

pub returns-in_err-mark : goal.returns-in_err-mark
returns-in_err-mark c =
    let p = err_from_is_err_and c.from_residual.result c.from_residual.ensures.1 in
    rw (p.1, p.2) (refused_small Error c.args.choice c.args.octets.now _ (ap is_small_production c.requires) c.in_err-mark.ensures)
