use Rattle.std.proofs.Common.{arith}
use Rattle.bac_tag.specs.Laws.Octets.{octets_at}
use Rattle.bac_value.specs.Laws.Unsigned.{unsigned_begun}
use Rattle.bac_value.proofs.types.unsigned_integer.UnsignedPrimitive.hopeless.Goals as goal

pub returns-clause-none : goal.returns-clause-none
returns-clause-none c = unsigned_begun c.args._front.now c.args._size (octets_at _ (λ k. omega (arith, c.type_inv._front k))) c.requires.sized c.requires.size
