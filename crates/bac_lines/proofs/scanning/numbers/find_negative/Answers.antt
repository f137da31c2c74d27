use Rattle.std.proofs.Common.{inl, inr}
use Rattle.bac_lines.proofs.Digits.{negative_none, negative_wrong, negative_some}
use Rattle.bac_lines.proofs.scanning.numbers.find_negative.Goals as goal

pub returns-in_err-magnitude-clause-found : goal.returns-in_err-magnitude-clause-found
returns-in_err-magnitude-clause-found c = rw c.from_residual.ensures (negative_none c.args.line.now c.in_err-magnitude.ensures.found)

pub returns-then-magnitude-eq0-clause-found : goal.returns-then-magnitude-eq0-clause-found
returns-then-magnitude-eq0-clause-found c = negative_wrong c.args.line.now c.in_ok-magnitude.magnitude c.in_ok-magnitude.digits c.in_ok-magnitude.ensures.found (elim c.then-magnitude-eq0.either [
  | inl zero_is ↦ inl zero_is
  | inr large ↦ inr large.1
])

pub returns-clause-found : goal.returns-clause-found
returns-clause-found c = negative_some c.args.line.now _ _ c.wrapping_neg.result c.in_ok-magnitude.ensures.found c.wrapping_neg.ensures c.wrapping_neg.type_inv
