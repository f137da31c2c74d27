use Rattle.std.proofs.Common.{sym, ◌∙◌, ap, arith}
use Rattle.bac_tag.specs.Laws.Octets.{octets_at}
use Rattle.bac_field_parts.specs.Symbols.{has_contents}
use Rattle.bac_fields.specs.Laws.Frames.{address_none, address_other_name, address_other_number, address_other_contents, address_of_other_length, address_said_so, contents_octets}
use Rattle.bac_fields.proofs.frame_heads.read_address.Goals as goal

pub returns-in_default-clause-stopped : goal.returns-in_default-clause-stopped
returns-in_default-clause-stopped c = rw c.at.ensures (address_none _ _ c.requires.few c.args.octets.now c.args.fields.now c.in_default.ensures.value)

pub returns-then-field-number-clause-stopped : goal.returns-then-field-number-clause-stopped
returns-then-field-number-clause-stopped c =
    rw c.at-then-field-number.ensures (address_other_name _ _ c.requires.few c.args.octets.now c.args.fields.now c.in-Some.field.now c.in-Some.ensures.value (λ e. c.if-field-number.true (e ∙ sym c.number.ensures)))

pub returns-in_default-of_number-clause-stopped : goal.returns-in_default-of_number-clause-stopped
returns-in_default-of_number-clause-stopped c =
    let name_is = c.if-field-number.false ∙ c.number.ensures in
    rw c.at-in_default-of_number.ensures (address_other_number _ _ c.requires.few c.args.octets.now c.args.fields.now c.in-Some.field.now c.in-Some.ensures.value name_is c.in_default-of_number.ensures.none)

pub returns-in_default-contents_of-clause-stopped : goal.returns-in_default-contents_of-clause-stopped
returns-in_default-contents_of-clause-stopped c =
    let name_is = c.if-field-number.false ∙ c.number.ensures in
    let outside = c.in_default-contents_of.ensures.none (ap has_contents name_is ∙ c.requires.held) in
    let number = c.in-Some-of_number.ensures.some in
    rw c.at-in_default-contents_of.ensures (address_other_contents _ _ c.requires.few c.args.octets.now c.args.fields.now c.in-Some.field.now c.in-Some-of_number.network c.in-Some.ensures.value name_is number.0 number.1 (λ a fits h. let e = h ∙ outside in absurd (cc)))

pub returns-then-address-least-clause-stopped : goal.returns-then-address-least-clause-stopped
returns-then-address-least-clause-stopped c =
    let name_is = c.if-field-number.false ∙ c.number.ensures in
    let held = c.in-Some-contents_of.ensures.some (ap has_contents name_is ∙ c.requires.held) in
    let number = c.in-Some-of_number.ensures.some in
    let short = c.if-address-least.true in
    rw c.at-then-address-least.ensures (address_of_other_length _ _ c.requires.few c.args.octets.now c.args.fields.now c.in-Some.field.now c.in-Some-of_number.network c.in-Some-contents_of.address.now c.in-Some.ensures.value name_is number.0 number.1 held (λ long few. omega (arith, long, short)))

pub returns-then-address-gt255-clause-stopped : goal.returns-then-address-gt255-clause-stopped
returns-then-address-gt255-clause-stopped c =
    let name_is = c.if-field-number.false ∙ c.number.ensures in
    let held = c.in-Some-contents_of.ensures.some (ap has_contents name_is ∙ c.requires.held) in
    let number = c.in-Some-of_number.ensures.some in
    let longer = c.if-address-gt255.true in
    rw c.at-then-address-gt255.ensures (address_of_other_length _ _ c.requires.few c.args.octets.now c.args.fields.now c.in-Some.field.now c.in-Some-of_number.network c.in-Some-contents_of.address.now c.in-Some.ensures.value name_is number.0 number.1 held (λ long few. omega (arith, longer, few)))

pub returns-clause-read : goal.returns-clause-read
returns-clause-read c =
    let name_is = c.if-field-number.false ∙ c.number.ensures in
    let held = c.in-Some-contents_of.ensures.some (ap has_contents name_is ∙ c.requires.held) in
    let number = c.in-Some-of_number.ensures.some in
    address_said_so _ _ c.requires.few c.args.octets.now c.args.fields.now c.in-Some.field.now c.in-Some-of_number.network c.in-Some-contents_of.address.now c.in-Some.ensures.value name_is number.0 held
    (number.1, (c.if-address-least.false, (omega (arith, c.if-address-gt255.false), contents_octets c.args.octets.now c.in-Some.field.now c.in-Some-contents_of.address.now (octets_at c.args.octets.now (λ k. omega (arith, c.type_inv.octets k))) held)))
