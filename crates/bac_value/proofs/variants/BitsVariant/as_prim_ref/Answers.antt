use Rattle.std.proofs.Common.{ap}
use Rattle.bac_value.specs.declared.prim.PrimitiveValue.TheVariants.{Bits}
use Rattle.bac_value.specs.Laws.Bits.{bits_in_packed, packed_is_packed}
use Rattle.bac_value.proofs.variants.BitsVariant.as_prim_ref.Goals as goal

pub returns-clause-value : goal.returns-clause-value
returns-clause-value c = ap Bits (bits_in_packed _ c.len.result c.packed.result.now c.packed.ensures.value c.packed.ensures.packed c.len.ensures)

pub returns-clause-packed : goal.returns-clause-packed
returns-clause-packed c = rw (c.packed.ensures.packed, c.len.ensures) (packed_is_packed _)
