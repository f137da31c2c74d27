use Rattle.std.proofs.Common.{sym, ◌∙◌}
use Rattle.std.proofs.lemmas.Bool.{not-true}
use Rattle.bac_field_parts.specs.Laws.Numbers.{number_none, number_other_name, number_other_number, number_read}
use Rattle.bac_field_parts.proofs.numbers.NumberFromNumbers.read.Goals as goal

pub returns-in_default-clause-stopped : goal.returns-in_default-clause-stopped
returns-in_default-clause-stopped g c octets = rw c.at.ensures (number_none _ _ _ g.met.T.Small.some octets c.args.fields.now c.in_default.ensures.value)

pub returns-then-field-number-clause-stopped : goal.returns-then-field-number-clause-stopped
returns-then-field-number-clause-stopped g c octets =
    rw c.at-then-field-number.ensures (number_other_name _ _ _ g.met.T.Small.some octets c.args.fields.now c.in-Some.field.now c.in-Some.ensures.value (λ e. c.if-field-number.true (e ∙ sym c.number.ensures)))

pub returns-in-Some-of_number-clause-read : goal.returns-in-Some-of_number-clause-read
returns-in-Some-of_number-clause-read g c octets =
    number_read _ _ _ g.met.T.Small.some octets c.args.fields.now c.in-Some.field.now c.in-Some-of_number.value c.in-Some.ensures.value (c.if-field-number.false ∙ c.number.ensures) (not-true _ c.requires) c.in-Some-of_number.ensures.some.0 c.in-Some-of_number.ensures.some.1

pub returns-in-None-clause-stopped : goal.returns-in-None-clause-stopped
returns-in-None-clause-stopped g c octets =
    rw c.at-in-None.ensures (number_other_number _ _ _ g.met.T.Small.some octets c.args.fields.now c.in-Some.field.now c.in-Some.ensures.value (c.if-field-number.false ∙ c.number.ensures) c.in-None.ensures.none)
