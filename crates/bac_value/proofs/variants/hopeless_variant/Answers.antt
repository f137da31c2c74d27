use Rattle.std.proofs.lemmas.Option.{IfSome_then}
use Rattle.bac_value.specs.Laws.Variants.{hopeless_into}
use Rattle.bac_value.proofs.variants.hopeless_variant.Goals as goal

pub returns-clause-some : goal.returns-clause-some
returns-clause-some g c =
    IfSome_then c.hopeless.result c.hopeless.ensures.some
    (λ place. hopeless_into g.T.Primitive.APP g.T.Primitive.contents g.T.Variant.wrapped g.met.T.Variant.is_variant c.args.front.now c.args.size place)
