use Rattle.std.proofs.lemmas.Result.{err_from_is_err_and}
use Rattle.bac_service.specs.Laws.Decoded.{found_as, refused_as}
use Rattle.bac_service.proofs.named.decode_named.Goals as goal

pub returns : goal.returns
returns g c = found_as g.S.Named.kind g.S.Named.choice c.args.octets.now _ _ c.into_service.ensures c.in_ok-part.ensures.found c.in_ok-part.ensures.mark

pub returns-in_err-part : goal.returns-in_err-part
returns-in_err-part g c =
    let p = err_from_is_err_and c.from_residual.result c.from_residual.ensures.1 in
    rw (p.1, p.2) (refused_as g.S.Named.kind g.S.Named.choice c.args.octets.now _ g.met.S.Named.named c.in_err-part.ensures.refused (λ w. ((c.in_err-part.ensures.memory w).0, g.met.S.Named.memory (c.in_err-part.ensures.memory w).1)) c.in_err-part.ensures.reasons)
