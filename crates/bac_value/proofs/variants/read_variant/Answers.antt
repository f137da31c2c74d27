use Rattle.std.proofs.Common.{[], length}
use Rattle.std.proofs.lemmas.Result.{err_from_is_err_and}
use Rattle.bac_value.specs.Laws.Variants.{begun_from, hopeless_into}
use Rattle.bac_value.proofs.variants.read_variant.Goals as goal

pub returns-in_err-read-clause-length : goal.returns-in_err-read-clause-length
returns-in_err-read-clause-length g c =
    let p = err_from_is_err_and c.from_residual.result c.from_residual.ensures.1 in
    rw (p.1, p.2) (λ why. let h = c.in_err-read.ensures.length why in
    (h.0, λ begun. h.1 (begun_from g.T.Primitive.APP g.T.Primitive.contents g.T.Variant.wrapped g.met.T.Variant.is_variant [] (length c.args.octets.now) begun)))

pub returns-in_err-read-clause-content : goal.returns-in_err-read-clause-content
returns-in_err-read-clause-content g c =
    let p = err_from_is_err_and c.from_residual.result c.from_residual.ensures.1 in
    rw (p.1, p.2) (λ why.
    hopeless_into g.T.Primitive.APP g.T.Primitive.contents g.T.Variant.wrapped g.met.T.Variant.is_variant c.args.octets.now (length c.args.octets.now) _ (c.in_err-read.ensures.content why))
