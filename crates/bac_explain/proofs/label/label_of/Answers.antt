use Rattle.std.proofs.Common.{◌≡◌, ◌∙◌, true, false, refl, subst, sym}
use Rattle.std.specs.Prelude.{None, Some}
use Rattle.bac_field_parts.specs.declared.names.Name.{Name}
use Rattle.bac_explain.proofs.LabelLemmas.{Finds, finds_all, finds_last, finds_more, finds_none, finds_this}
use Rattle.bac_explain.proofs.label.label_of.Goals as goal

pub loop-field-init : goal.loop-field-init
loop-field-init c = finds_all c.args.piece.now c.args.fields.now

pub returns-then-not-is_not_after : goal.returns-then-not-is_not_after
returns-then-not-is_not_after c =
    finds_none c.args.piece.now c.args.fields.now c.in-Some.field.now c.in-Some.more.now (sym c.is_not_after.ensures ∙ c.if-not-is_not_after.true) (subst (Finds c.args.piece.now c.args.fields.now) c.in-Some.ensures.cases.0 c.loop-field.invariant)

pub returns-in-Some-of_number : goal.returns-in-Some-of_number
returns-in-Some-of_number c =
    finds_this c.args.piece.now c.args.fields.now c.in-Some.field.now c.in-Some.more.now (record { name = c.in-Some-of_number.name; number = c.in-Some.field.now.number }) (sym c.is_not_after.ensures ∙ c.if-not-is_not_after.false) (c.begins_in.ensures.0 c.if-begins_in.true)
    (sym c.in-Some-of_number.ensures.number) refl (subst (Finds c.args.piece.now c.args.fields.now) c.in-Some.ensures.cases.0 c.loop-field.invariant)

pub loop-field-preserved-in_default-of_number : goal.loop-field-preserved-in_default-of_number
loop-field-preserved-in_default-of_number c =
    finds_more c.args.piece.now c.args.fields.now c.in-Some.field.now c.in-Some.more.now (sym c.is_not_after.ensures ∙ c.if-not-is_not_after.false) (λ b (n : Name) e. absurd (let i : None ≡ Some n = sym c.in_default-of_number.is ∙ c.of_number.ensures.some n e in cc))
    (subst (Finds c.args.piece.now c.args.fields.now) c.in-Some.ensures.cases.0 c.loop-field.invariant)

pub loop-field-preserved : goal.loop-field-preserved
loop-field-preserved c =
    finds_more c.args.piece.now c.args.fields.now c.in-Some.field.now c.in-Some.more.now (sym c.is_not_after.ensures ∙ c.if-not-is_not_after.false) (λ b (n : Name) e. absurd (let i : false ≡ true = sym c.if-begins_in.false ∙ c.begins_in.ensures.1 b in cc))
    (subst (Finds c.args.piece.now c.args.fields.now) c.in-Some.ensures.cases.0 c.loop-field.invariant)

pub returns : goal.returns
returns c =
    let cases = rw c.in_default.is at c.split_first.ensures.cases in
    finds_last c.args.piece.now c.args.fields.now c.loop-field.rest.now cases c.loop-field.invariant
