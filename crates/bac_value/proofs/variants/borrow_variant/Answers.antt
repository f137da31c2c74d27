use Rattle.bac_value.specs.Laws.Variants.{written_from}
use Rattle.bac_value.proofs.variants.borrow_variant.Goals as goal

pub borrowed-requires : goal.borrowed-requires
borrowed-requires g c = written_from g.T.Primitive.APP g.T.Primitive.contents g.T.Variant.wrapped g.T.Primitive.written g.met.T.Variant.is_variant g.met.T.Variant.is_written c.args.octets.now c.requires
