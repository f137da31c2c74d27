use Rattle.std.proofs.Common.{ap}
use Rattle.bac_value.specs.declared.prim.PrimitiveValue.TheVariants.{Bits}
use Rattle.bac_value.specs.Laws.Bits.{bits_behind_count, packed_behind_count}
use Rattle.bac_value.proofs.variants.BitsVariant.borrowed.Goals as goal

pub returns-clause-value : goal.returns-clause-value
returns-clause-value c = λ value h. ap Bits (bits_behind_count value c.args.octets.now c.from.result c.from.ensures h)

pub returns-clause-packed : goal.returns-clause-packed
returns-clause-packed c =
    packed_behind_count c.requires.value c.args.octets.now c.from.result c.from.ensures c.requires.is
