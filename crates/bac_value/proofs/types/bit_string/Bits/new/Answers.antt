use Rattle.std.proofs.Common.{arith}
use Rattle.bac_value.specs.Laws.Bits.{least_is_least}
use Rattle.bac_value.proofs.types.bit_string.Bits.new.Goals as goal

pub invariant_of-result : goal.invariant_of-result
invariant_of-result c = (least_is_least c.args.bits.now c.in-Ok.contents.items (omega arith) c.in-Ok.ensures).0

pub returns-in-Ok-clause-value : goal.returns-in-Ok-clause-value
returns-in-Ok-clause-value c = (least_is_least c.args.bits.now c.in-Ok.contents.items (omega arith) c.in-Ok.ensures).1
