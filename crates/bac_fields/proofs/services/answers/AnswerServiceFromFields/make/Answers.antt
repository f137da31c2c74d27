use Rattle.std.specs.Prelude.{Some, None, Option, ℕ, ◌∷◌, [], IsTrue}
use Rattle.std.proofs.Common.{refl, ◌≡◌, sym, ◌∙◌, ap, subst, lit<}
use Rattle.std.proofs.lemmas.Result.{IfOk-weaker, IfErr-weaker}
use Rattle.bac_service.specs.ServiceTable.{read_property_ack, read_property_multiple_ack}
use Rattle.bac_service.specs.declared.kind.Kind.TheVariants.{ComplexAck}
use Rattle.bac_fields.specs.ServiceSymbols.{service_leads}
use Rattle.bac_field_parts.specs.Symbols.{has, lead_in}
use Rattle.bac_field_parts.specs.Laws.Making.{stop_then}
use Rattle.bac_fields.specs.Laws.Services.{row_made, row_stopped_at, opaque_made, opaque_stopped_at, other_stopped_at, not_first}
use Rattle.bac_fields.proofs.services.answers.AnswerServiceFromFields.make.Goals.{in_default-via-in-Some+in_default, in_default-via-in_default}
use Rattle.bac_fields.proofs.services.answers.AnswerServiceFromFields.make.Goals as goal

pub returns-in-Some-eq60-clause-made : goal.returns-in-Some-eq60-clause-made
returns-in-Some-eq60-clause-made c = IfOk-weaker c.make.result _ _ (λ taken. row_made ComplexAck refl 12 read_property_ack (lit< tt) refl _ _ _ _) c.make.ensures.made

pub returns-in-Some-eq60-clause-stopped : goal.returns-in-Some-eq60-clause-stopped
returns-in-Some-eq60-clause-stopped c =
    let named = ap Some (sym c.in-Some-eq60.field-0-test) ∙ sym c.in-Some-eq60.is ∙ c.lead.ensures in
    IfErr-weaker c.make.result _ _ (λ fault. stop_then fault _ _ (λ q. row_stopped_at ComplexAck refl 12 read_property_ack 60 (lit< tt) refl refl c.args.octets.now c.args.fields.now named q)) c.make.ensures.stopped

pub returns-in-Some-eq61-clause-made : goal.returns-in-Some-eq61-clause-made
returns-in-Some-eq61-clause-made c = IfOk-weaker c.make-in-Some-eq61.result _ _ (λ taken. row_made ComplexAck refl 14 read_property_multiple_ack (lit< tt) refl _ _ _ _) c.make-in-Some-eq61.ensures.made

pub returns-in-Some-eq61-clause-stopped : goal.returns-in-Some-eq61-clause-stopped
returns-in-Some-eq61-clause-stopped c =
    let named = ap Some (sym c.in-Some-eq61.field-0-test) ∙ sym c.in-Some-eq61.is ∙ c.lead.ensures in
    IfErr-weaker c.make-in-Some-eq61.result _ _ (λ fault. stop_then fault _ _ (λ q. row_stopped_at ComplexAck refl 14 read_property_multiple_ack 61 (lit< tt) refl refl c.args.octets.now c.args.fields.now named q)) c.make-in-Some-eq61.ensures.stopped

pub returns-in-Some-eq69-clause-made : goal.returns-in-Some-eq69-clause-made
returns-in-Some-eq69-clause-made c = IfOk-weaker c.make-in-Some-eq69.result _ _ (λ taken. opaque_made ComplexAck refl _ _ _ _) c.make-in-Some-eq69.ensures.made

pub returns-in-Some-eq69-clause-stopped : goal.returns-in-Some-eq69-clause-stopped
returns-in-Some-eq69-clause-stopped c =
    let named = ap Some (sym c.in-Some-eq69.field-0-test) ∙ sym c.in-Some-eq69.is ∙ c.lead.ensures in
    IfErr-weaker c.make-in-Some-eq69.result _ _ (λ fault. stop_then fault _ _ (λ q. opaque_stopped_at ComplexAck refl c.args.octets.now c.args.fields.now named q)) c.make-in-Some-eq69.ensures.stopped

pub returns-in_default-clause-stopped : goal.returns-in_default-clause-stopped
returns-in_default-clause-stopped c = rw c.at.ensures (other_stopped_at ComplexAck refl c.args.octets.now c.args.fields.now other)
  where
    named_other : (n : ℕ) (lead : Option ℕ) → lead ≡ Some n → (n ≡ 60 → ⊥) → (n ≡ 61 → ⊥) → (n ≡ 69 → ⊥) → IsTrue (has (service_leads ComplexAck) lead) → ⊥
    named_other n lead is a0 a1 a2 h = not_first 60 n (Some 61 ∷ Some 69 ∷ []) a0 (not_first 61 n (Some 69 ∷ []) a1 (not_first 69 n [] a2 (λ i. absurd (cc)))) (subst (λ (l : Option ℕ). IsTrue (has (service_leads ComplexAck) l)) is h)

    at_end : (lead : Option ℕ) → lead ≡ None → IsTrue (has (service_leads ComplexAck) lead) → ⊥
    at_end lead is h = let none : IsTrue (has (service_leads ComplexAck) None) = subst (λ (l : Option ℕ). IsTrue (has (service_leads ComplexAck) l)) is h in absurd (cc)

    other : IsTrue (has (service_leads ComplexAck) (lead_in c.args.fields.now)) → ⊥
    other h = elim c.in_default.branch [
      | in_default-via-in-Some+in_default w ↦ (let (((u, a0), a1), a2) = w.in_default.field-0-test in named_other _ (lead_in c.args.fields.now) (sym w.in_default.ensures) a0 a1 a2 h)
      | in_default-via-in_default w ↦ at_end (lead_in c.args.fields.now) (sym c.lead.ensures ∙ w.in_default.is) h
    ]
