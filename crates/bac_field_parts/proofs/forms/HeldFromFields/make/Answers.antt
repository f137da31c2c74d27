use Rattle.std.proofs.Common.{◌≡◌, List, ℕ, sym, ◌∙◌, ap}
use Rattle.std.specs.Prelude.{Some}
use Rattle.bac_field_parts.specs.Names.{number_of}
use Rattle.bac_field_parts.specs.Symbols.{has_contents}
use Rattle.bac_field_parts.specs.Laws.Leaves.{one_none, one_other_name, one_other_number, one_other_contents, held_made}
use Rattle.bac_field_parts.proofs.forms.HeldFromFields.make.Goals as goal

pub returns-in_default-clause-stopped : goal.returns-in_default-clause-stopped
returns-in_default-clause-stopped g c =
    let i = g.met.H.Holding.inhabited in
    rw c.at.ensures (one_none _ _ _ _ i c.args.octets.now c.args.fields.now c.in_default.ensures.value)

pub returns-then-field-number-clause-stopped : goal.returns-then-field-number-clause-stopped
returns-then-field-number-clause-stopped g c =
    let i = g.met.H.Holding.inhabited in
    let name_is = c.number.ensures ∙ ap number_of c.name.ensures in
    rw c.at-then-field-number.ensures (one_other_name _ _ _ _ i c.args.octets.now c.args.fields.now c.in-Some.field.now c.in-Some.ensures.value (λ e. c.if-field-number.true (e ∙ sym name_is)))

pub returns-then-not-has-clause-stopped : goal.returns-then-not-has-clause-stopped
returns-then-not-has-clause-stopped g c =
    let i = g.met.H.Holding.inhabited in
    let name_is = c.if-field-number.false ∙ c.number.ensures ∙ ap number_of c.name.ensures in
    rw c.at-then-not-has.ensures (one_other_number _ _ _ _ i c.args.octets.now c.args.fields.now c.in-Some.field.now c.in-Some.ensures.value name_is (c.has.ensures.none c.if-not-has.true))

pub returns-in_default-contents_of-clause-stopped : goal.returns-in_default-contents_of-clause-stopped
returns-in_default-contents_of-clause-stopped g c =
    let i = g.met.H.Holding.inhabited in
    let name_is = c.if-field-number.false ∙ c.number.ensures ∙ ap number_of c.name.ensures in
    let outside = c.in_default-contents_of.ensures.none (ap has_contents name_is ∙ c.requires) in
    rw c.at-in_default-contents_of.ensures
    (one_other_contents _ _ _ _ i c.args.octets.now c.args.fields.now c.in-Some.field.now c.in-Some.ensures.value name_is (c.has.ensures.some c.if-not-has.false) (λ v b p n h. let e = h ∙ outside in absurd (cc)))

pub returns-in-Ok-true-clause-made : goal.returns-in-Ok-true-clause-made
returns-in-Ok-true-clause-made g c =
    let name_is = c.if-field-number.false ∙ c.number.ensures ∙ ap number_of c.name.ensures in
    let held = c.in-Some-contents_of.ensures.some (ap has_contents name_is ∙ c.requires) in
    held_made _ _ _ c.args.octets.now _ c.args.fields.now c.in-Some.field.now c.in-Some-contents_of.contents.now _ _ c.in-Some.ensures.value name_is held (c.in-Ok-true.ensures.made c.in-Ok-true.field-0-test)

pub returns-in-Ok-false-clause-stopped : goal.returns-in-Ok-false-clause-stopped
returns-in-Ok-false-clause-stopped g c =
    let i = g.met.H.Holding.inhabited in
    let name_is = c.if-field-number.false ∙ c.number.ensures ∙ ap number_of c.name.ensures in
    let held = c.in-Some-contents_of.ensures.some (ap has_contents name_is ∙ c.requires) in
    rw c.at-in-Ok-false.ensures
    (one_other_contents _ _ _ _ i c.args.octets.now c.args.fields.now c.in-Some.field.now c.in-Some.ensures.value name_is (c.has.ensures.some c.if-not-has.false)
    (λ v b p n h. c.in-Ok-false.ensures.none c.in-Ok-false.field-0-test v b p n (same_contents (h ∙ held))))
  where
    same_contents : {a b : List ℕ} → Some a ≡ Some b → a ≡ b
    same_contents e = cc

pub append-requires : goal.append-requires
append-requires g c = c.has.ensures.some c.if-not-has.false
