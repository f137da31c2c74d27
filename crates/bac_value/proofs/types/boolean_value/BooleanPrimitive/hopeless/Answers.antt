use Rattle.std.proofs.Common.{arith, ◌≡◌, ℕ, ◌≤◌, List, [], ◌∷◌, length, get_or}
use Rattle.bac_numbers.specs.Laws.Numbers.{some_octets, no_octets}
use Rattle.bac_value.specs.Laws.Boolean.{boolean_begun, boolean_hopeless}
use Rattle.bac_value.proofs.types.boolean_value.BooleanPrimitive.hopeless.Goals.{else-not-is_empty-via-then-not-is_empty+else-front-gt1, else-not-is_empty-via-else-not-is_empty}
use Rattle.bac_value.proofs.types.boolean_value.BooleanPrimitive.hopeless.Goals as goal

small : (front : List ℕ) → length front ≡ 0 → get_or front 0 0 ≤ 1
small [] e = omega arith
small (x ∷ xs) e = absurd (omega arith)

pub returns-then-front-gt1-clause-some : goal.returns-then-front-gt1-clause-some
returns-then-front-gt1-clause-some c = boolean_hopeless c.args.front.now c.args._size c.requires.size.0 c.requires.size.1 (some_octets c.args.front.now c.if-not-is_empty.ensures) c.if-front-gt1.true

pub returns-clause-none : goal.returns-clause-none
returns-clause-none c = boolean_begun c.args.front.now c.args._size c.requires.sized c.requires.size.0 c.requires.size.1 (elim c.else-not-is_empty.branch [
  | else-not-is_empty-via-then-not-is_empty+else-front-gt1 w ↦ omega (arith, w.if-front-gt1.false)
  | else-not-is_empty-via-else-not-is_empty w ↦ small c.args.front.now (no_octets c.args.front.now w.if-not-is_empty.ensures)
])
