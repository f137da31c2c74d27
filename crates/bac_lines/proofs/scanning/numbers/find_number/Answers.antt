use Rattle.std.proofs.Common.{ℕ, ◌<◌, ◌^◌, subst}
use Rattle.bac_lines.proofs.Digits.{numeral_one, numeral_more, no_room, no_more, all_read, none_read}
use Rattle.bac_lines.proofs.scanning.numbers.find_number.Goals as goal

pub returns-in_err-number-clause-found : goal.returns-in_err-number-clause-found
returns-in_err-number-clause-found c = rw c.from_residual.ensures (none_read c.args.line.now c.in_err-number.ensures.none)

pub loop-digit-init : goal.loop-digit-init
loop-digit-init c =
    let digit = c.in_ok-number.ensures.some in
    numeral_one c.args.line.now c.in_ok-number.number digit.0 digit.1.0 digit.1.1

pub returns-then-number-eq0-clause-found : goal.returns-then-number-eq0-clause-found
returns-then-number-eq0-clause-found c =
    let digit = c.in-Some.ensures.some in
    no_more c.args.line.now _ _ _ c.loop-digit.invariant c.if-number-eq0.true digit.0 digit.1.0 digit.1.1

pub returns-in_err-number-2-clause-found : goal.returns-in_err-number-2-clause-found
returns-in_err-number-2-clause-found c =
    let digit = c.in-Some.ensures.some in
    rw c.from_residual-in_err-number-2.ensures (no_room c.args.line.now _ _ _ c.loop-digit.invariant digit.0 digit.1.0 digit.1.1 c.in_err-number-2.ensures.none)

pub loop-digit-preserved : goal.loop-digit-preserved
loop-digit-preserved c =
    let digit = c.in-Some.ensures.some in
    let next = c.in_ok-number-2.ensures.some in
    rw next.0 (numeral_more c.args.line.now _ _ _ c.loop-digit.invariant c.if-number-eq0.false digit.0 digit.1.0 digit.1.1 (subst (λ (n : ℕ). n < 2 ^ 64) next.0 next.1))

pub returns-clause-found : goal.returns-clause-found
returns-clause-found c = all_read c.args.line.now _ _ c.loop-digit.invariant c.in_default.ensures.none
