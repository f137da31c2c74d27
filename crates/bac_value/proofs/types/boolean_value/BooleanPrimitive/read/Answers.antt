use Rattle.std.proofs.Common.{arith}
use Rattle.bac_value.specs.Laws.Boolean.{boolean_hopeless}
use Rattle.bac_value.proofs.types.boolean_value.BooleanPrimitive.read.Goals as goal

pub returns-then-octets-gt1-clause-content : goal.returns-then-octets-gt1-clause-content
returns-then-octets-gt1-clause-content c = λ why. rw c.at-then-octets-gt1.ensures (boolean_hopeless c.args.octets.now _ (omega arith) (omega arith) (omega arith) (omega arith))
