use Rattle.std.specs.Prelude.{◌⊎◌, ◌<◌}
use Rattle.std.proofs.Common.{◌∙◌, ap, sym, arith, inl, inr}
use Rattle.bac_text.specs.Words.{number}
use Rattle.bac_lines.proofs.RecordNumbers.{first_read, more_read, no_digit, first_out, grown_out}
use Rattle.bac_lines.proofs.numbers.read_number.Goals.{then-first-least-via-then-first-least, then-first-least-via-else-first-least+then-first-most}
use Rattle.bac_lines.proofs.numbers.read_number.Goals as goal

pub returns-in_default-clause-none : goal.returns-in_default-clause-none
returns-in_default-clause-none c = λ low n more over under ends is. no_digit c.args.line.now c.in_default.ensures.none n more (omega (arith, under, c.ranges.most.fits)) is

pub returns-then-first-least-clause-none : goal.returns-then-first-least-clause-none
returns-then-first-least-clause-none c =
    let digit = c.in-Some.ensures.some in
    let out : (c.in-Some.first < c.args.least) ⊎ (c.args.most < c.in-Some.first) = elim c.then-first-least.branch [
      | then-first-least-via-then-first-least w ↦ inl (omega (arith, w.if-first-least.true))
      | then-first-least-via-else-first-least+then-first-most w ↦ inr (omega (arith, w.if-first-most.true))
    ] in
    first_out c.args.line.now c.in-Some.first c.args.least c.args.most digit.0 digit.1.0 digit.1.1 out (omega (arith, c.ranges.most.fits))

pub loop-number-init : goal.loop-number-init
loop-number-init c =
    let digit = c.in-Some.ensures.some in
    (omega (arith, c.if-first-most.false), (omega (arith, digit.0), (first_read c.args.line.now c.in-Some.first digit.0 digit.1.0 digit.1.1, omega (arith, c.if-first-least.false))))

pub returns-in-None-clause-none : goal.returns-in-None-clause-none
returns-in-None-clause-none c =
    let digit = c.in-Some-digit_at.ensures.some in
    let kept = c.loop-number.invariant in
    grown_out c.args.line.now c.loop-number.taken c.loop-number.number c.in-Some-digit_at.digit c.args.least c.args.most kept.1.1.0 (omega (arith, kept.0, c.ranges.most.fits)) digit.0 digit.1.0 digit.1.1 c.in-None.ensures.none (omega (arith, c.ranges.most.fits))

pub loop-number-preserved : goal.loop-number-preserved
loop-number-preserved c =
    let digit = c.in-Some-digit_at.ensures.some in
    let kept = c.loop-number.invariant in
    let next = c.in-Some-with_digit.ensures.some in
    let read = more_read c.args.line.now c.loop-number.taken c.loop-number.number c.in-Some-digit_at.digit digit.0 kept.1.1.0 (omega (arith, c.loop-number-test.true)) (omega (arith, next.0, next.1, c.ranges.most.fits)) digit.1.0 digit.1.1 in
    (next.1, (omega (arith, digit.0), (read ∙ ap number (sym next.0), omega (arith, next.0, kept.1.1.1))))
