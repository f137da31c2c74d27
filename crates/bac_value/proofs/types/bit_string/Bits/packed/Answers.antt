use Rattle.bac_value.specs.Laws.Bits.{least_some}
use Rattle.bac_value.proofs.types.bit_string.Bits.packed.Goals as goal

pub behind_count-requires-clause-some : goal.behind_count-requires-clause-some
behind_count-requires-clause-some c = rw c.deref.ensures.value (least_some c.self.inside.contents.items c.self.invariant)
