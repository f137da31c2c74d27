use Rattle.std.proofs.Common.{arith}
use Rattle.bac_tag.specs.Laws.Octets.{octets_at}
use Rattle.bac_value.specs.Laws.AnyOctets.{any_octets_begun}
use Rattle.bac_value.specs.Laws.Real.{real_any_octets}
use Rattle.bac_value.proofs.types.real.RealBitsPrimitive.hopeless.Goals as goal

pub returns-clause-none : goal.returns-clause-none
returns-clause-none c =
    any_octets_begun real_any_octets c.args._front.now c.args._size (octets_at _ (λ k. omega (arith, c.type_inv._front k))) c.requires.sized c.requires.size.0 c.requires.size.1
