use Rattle.std.proofs.lemmas.Result.{err_from_is_err_and}
use Rattle.bac_service.specs.Laws.Decoded.{found_as, refused_as}
use Rattle.bac_service.proofs.named.decode_list.Goals as goal

pub returns : goal.returns
returns g c = found_as g.S.NamedList.kind g.S.NamedList.choice c.args.octets.now _ _ c.into_service.ensures c.in_ok-items.ensures.found c.in_ok-items.ensures.mark

pub returns-in_err-items : goal.returns-in_err-items
returns-in_err-items g c =
    let p = err_from_is_err_and c.from_residual.result c.from_residual.ensures.1 in
    rw (p.1, p.2) (refused_as g.S.NamedList.kind g.S.NamedList.choice c.args.octets.now _ g.met.S.NamedList.named c.in_err-items.ensures.refused (λ w. ((c.in_err-items.ensures.memory w).0, g.met.S.NamedList.memory)) c.in_err-items.ensures.reasons)
