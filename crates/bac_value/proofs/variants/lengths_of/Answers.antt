use Rattle.bac_value.specs.Laws.Variants.{lengths_into}
use Rattle.bac_value.proofs.variants.lengths_of.Goals as goal

pub returns-clause-lengths : goal.returns-clause-lengths
returns-clause-lengths g c = rw (c.SHORTEST.ensures, c.LONGEST.ensures)
    (lengths_into g.T.Primitive.APP g.T.Primitive.contents g.T.Variant.wrapped g.met.T.Variant.is_variant g.T.Primitive.SHORTEST g.T.Primitive.LONGEST g.met.T.Primitive.lengths g.met.T.Primitive.each_length)
