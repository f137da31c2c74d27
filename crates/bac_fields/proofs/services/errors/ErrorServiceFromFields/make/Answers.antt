use Rattle.std.specs.Prelude.{Some, ℕ, List, ◌∷◌}
use Rattle.bac_service.specs.declared.kind.Kind.TheVariants.{Error}
use Rattle.bac_fields.specs.ServiceSymbols.{service_said, SpellsAfterHead}
use Rattle.bac_field_parts.specs.Symbols.{Symbol, named, numbered, Language, IsStop}
use Rattle.std.proofs.Common.{refl, sym, ◌∙◌, subst, lit<}
use Rattle.std.proofs.lemmas.Result.{IfOk-weaker, IfErr-weaker}
use Rattle.bac_service.specs.ServiceTable.{write_property_multiple_error}
use Rattle.bac_field_parts.specs.Laws.Making.{stop_then}
use Rattle.bac_fields.specs.Laws.Items.{some_named, service_error_lawful, write_error_lawful}
use Rattle.bac_fields.specs.Laws.Errors.{error_said, SpellsError, error_none, error_other_name, at_choice, error_stopped, cause_stopped, opaque_error_stopped, nothing_left, write_error_made, cause_made, opaque_error_made}
use Rattle.bac_fields.proofs.services.errors.ErrorServiceFromFields.make.Goals as goal

pub returns-in_default-clause-stopped : goal.returns-in_default-clause-stopped
returns-in_default-clause-stopped c = rw c.at.ensures (error_none c.args.octets.now c.args.fields.now c.in_default.ensures.value)

pub returns-then-field-number-clause-stopped : goal.returns-then-field-number-clause-stopped
returns-then-field-number-clause-stopped c =
    rw c.at-then-field-number.ensures (error_other_name c.args.octets.now c.args.fields.now c.in-Some.field.now c.in-Some.ensures.value (λ e. c.if-field-number.true (e ∙ sym c.number.ensures)))

pub returns-then-field-eq16-clause-made : goal.returns-then-field-eq16-clause-made
returns-then-field-eq16-clause-made c = IfOk-weaker c.make.result _ _ (λ taken. write_error_made _ _ _ _) c.make.ensures.made

pub returns-then-field-eq16-clause-stopped : goal.returns-then-field-eq16-clause-stopped
returns-then-field-eq16-clause-stopped c =
    let name_is = c.if-field-number.false ∙ c.number.ensures in
    let at_16 = error_stopped 16 (Some write_property_multiple_error) (lit< tt) refl (some_named _ 30 write_error_lawful) in
    let stops = subst (λ (i : ℕ). (rest : List Symbol) (p : ℕ) → IsStop (Language (error_said 16 (Some write_property_multiple_error)) (SpellsError 16 (Some write_property_multiple_error))) (named 30 ∷ numbered i ∷ rest) p
    → IsStop (Language service_said (SpellsAfterHead Error)) (named 30 ∷ numbered i ∷ rest) p) (sym c.if-field-eq16.true) at_16 in
    IfErr-weaker c.make.result _ _ (λ fault. stop_then fault _ _ (λ p. at_choice _ c.args.octets.now c.args.fields.now c.in-Some.field.now c.in-Some.ensures.value name_is stops p)) c.make.ensures.stopped

pub returns-then-has_cause-clause-made : goal.returns-then-has_cause-clause-made
returns-then-has_cause-clause-made c = IfOk-weaker c.make-then-has_cause.result _ _ (λ taken. cause_made _ _ _ _) c.make-then-has_cause.ensures.made

pub returns-then-has_cause-clause-stopped : goal.returns-then-has_cause-clause-stopped
returns-then-has_cause-clause-stopped c =
    let name_is = c.if-field-number.false ∙ c.number.ensures in
    let stops = cause_stopped c.in-Some.field.now.number (c.has_cause.ensures.some c.if-has_cause.true) (some_named _ 30 service_error_lawful) in
    IfErr-weaker c.make-then-has_cause.result _ _ (λ fault. stop_then fault _ _ (λ p. at_choice _ c.args.octets.now c.args.fields.now c.in-Some.field.now c.in-Some.ensures.value name_is stops p)) c.make-then-has_cause.ensures.stopped

pub returns-clause-made : goal.returns-clause-made
returns-clause-made c = IfOk-weaker c.make-2.result _ _ (λ taken. opaque_error_made _ _ _ _) c.make-2.ensures.made

pub returns-clause-stopped : goal.returns-clause-stopped
returns-clause-stopped c =
    let name_is = c.if-field-number.false ∙ c.number.ensures in
    let none = nothing_left c.in-Some.field.now.number c.if-field-eq16.false (c.has_cause.ensures.none c.if-has_cause.false) in
    IfErr-weaker c.make-2.result _ _ (λ fault. stop_then fault _ _ (λ p. at_choice _ c.args.octets.now c.args.fields.now c.in-Some.field.now c.in-Some.ensures.value name_is (opaque_error_stopped c.in-Some.field.now.number none) p)) c.make-2.ensures.stopped
