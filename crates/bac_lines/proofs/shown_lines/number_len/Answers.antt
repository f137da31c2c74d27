use Rattle.std.proofs.Common.{rules, arith, sym, ◌∙◌}
use Rattle.bac_lines.proofs.ShownLineLemmas.{where_none, where_some, at_some, at_none, only_alone, after_blank, no_blank}
use Rattle.bac_lines.proofs.shown_lines.number_len.Goals as goal

pub returns-then-is_none-clause-only : goal.returns-then-is_none-clause-only
returns-then-is_none-clause-only c = only_alone c.args.line.now (where_none c.digit_at.result c.if-is_none.ensures c.digit_at.ensures.none)

pub returns-in-Some-eq32-clause-only : goal.returns-in-Some-eq32-clause-only
returns-in-Some-eq32-clause-only c =
    let digit = where_some c.digit_at.result c.if-is_none.ensures c.digit_at.ensures.some in
    let found = c.in-Some-eq32.ensures.lookup.3 in
    after_blank c.args.line.now digit.0 digit.1.1.0 digit.1.1.1 c.in_ok-digits.digits c.in_ok-digits.field-0-0 c.in_ok-digits.ensures.range c.in_ok-digits.ensures.read found.0 (sym (found.1 0) ∙ c.in-Some-eq32.field-0-test)

pub returns-in_default-clause-none : goal.returns-in_default-clause-none
returns-in_default-clause-none c =
    let digit = where_some c.digit_at.result c.if-is_none.ensures c.digit_at.ensures.some in
    let found = at_some _ _ c.get.result c.in_default.field-0 c.in_default.is c.get.ensures.lookup.3 in
    let ends = c.in_ok-digits.ensures.ends (omega (arith, c.in_ok-digits.ensures.least)) in
    no_blank c.args.line.now digit.0 digit.1.1.0 digit.1.1.1 c.in_ok-digits.digits c.in_ok-digits.field-0-0 c.in_ok-digits.ensures.range c.in_ok-digits.ensures.read ends (λ blank. search (rules, blank, found.1 0))

pub returns-in_default-2-clause-none : goal.returns-in_default-2-clause-none
returns-in_default-2-clause-none c =
    let digit = where_some c.digit_at.result c.if-is_none.ensures c.digit_at.ensures.some in
    let found = at_none _ _ c.get.result c.in_default.is (c.get.ensures.lookup.4 (omega arith) 0) in
    let ends = c.in_ok-digits.ensures.ends (omega (arith, c.in_ok-digits.ensures.least)) in
    no_blank c.args.line.now digit.0 digit.1.1.0 digit.1.1.1 c.in_ok-digits.digits c.in_ok-digits.field-0-0 c.in_ok-digits.ensures.range c.in_ok-digits.ensures.read ends (λ blank. omega (arith, found, blank))
