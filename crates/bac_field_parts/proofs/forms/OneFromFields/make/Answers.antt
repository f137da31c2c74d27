use Rattle.std.proofs.Common.{sym, ◌∙◌, ap}
use Rattle.std.proofs.lemmas.Bool.{and_parts, not-true}
use Rattle.bac_field_parts.specs.Names.{number_of}
use Rattle.bac_field_parts.specs.Laws.Leaves.{one_none, one_other_name, one_other_number, one_made}
use Rattle.bac_field_parts.proofs.forms.OneFromFields.make.Goals as goal

pub returns-in_default-clause-stopped : goal.returns-in_default-clause-stopped
returns-in_default-clause-stopped g c =
    let i = g.met.F.Form.inhabited c.args.self.now.0 (and_parts _ _ c.requires).0 in
    rw c.at.ensures (one_none _ _ _ _ i c.args._octets.now c.args.fields.now c.in_default.ensures.value)

pub returns-then-field-number-clause-stopped : goal.returns-then-field-number-clause-stopped
returns-then-field-number-clause-stopped g c =
    let i = g.met.F.Form.inhabited c.args.self.now.0 (and_parts _ _ c.requires).0 in
    let name_is = c.number.ensures ∙ ap number_of c.name.ensures in
    rw c.at-then-field-number.ensures (one_other_name _ _ _ _ i c.args._octets.now c.args.fields.now c.in-Some.field.now c.in-Some.ensures.value (λ e. c.if-field-number.true (e ∙ sym name_is)))

pub returns-in-Ok-true-clause-made : goal.returns-in-Ok-true-clause-made
returns-in-Ok-true-clause-made g c =
    let sound = and_parts _ _ c.requires in
    let i = g.met.F.Form.inhabited c.args.self.now.0 sound.0 in
    let name_is = c.if-field-number.false ∙ c.number.ensures ∙ ap number_of c.name.ensures in
    one_made _ _ _ c.args._octets.now c.args.fields.now c.in-Some.field.now _ _ c.in-Some.ensures.value name_is (not-true _ sound.1) (c.in-Ok-true.ensures.made c.in-Ok-true.field-0-test)

pub returns-in-Ok-false-clause-stopped : goal.returns-in-Ok-false-clause-stopped
returns-in-Ok-false-clause-stopped g c =
    let i = g.met.F.Form.inhabited c.args.self.now.0 (and_parts _ _ c.requires).0 in
    let name_is = c.if-field-number.false ∙ c.number.ensures ∙ ap number_of c.name.ensures in
    rw c.at-in-Ok-false.ensures (one_other_number _ _ _ _ i c.args._octets.now c.args.fields.now c.in-Some.field.now c.in-Some.ensures.value name_is (c.in-Ok-false.ensures.none c.in-Ok-false.field-0-test))

pub make-requires : goal.make-requires
make-requires g c = (and_parts _ _ c.requires).0
