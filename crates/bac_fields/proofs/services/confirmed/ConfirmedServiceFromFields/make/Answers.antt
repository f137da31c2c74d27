use Rattle.std.specs.Prelude.{Some, None, Option, ℕ, ◌∷◌, [], IsTrue}
use Rattle.std.proofs.Common.{refl, ◌≡◌, sym, ◌∙◌, ap, subst, lit<}
use Rattle.std.proofs.lemmas.Result.{IfOk-weaker, IfErr-weaker}
use Rattle.bac_service.specs.ServiceTable.{read_property, read_property_multiple, write_property, write_property_multiple, subscribe_cov, cov_notification}
use Rattle.bac_service.specs.declared.kind.Kind.TheVariants.{Confirmed}
use Rattle.bac_fields.specs.ServiceSymbols.{service_leads}
use Rattle.bac_field_parts.specs.Symbols.{has, lead_in}
use Rattle.bac_field_parts.specs.Laws.Making.{stop_then}
use Rattle.bac_fields.specs.Laws.Services.{row_made, row_stopped_at, opaque_made, opaque_stopped_at, other_stopped_at, not_first}
use Rattle.bac_fields.proofs.services.confirmed.ConfirmedServiceFromFields.make.Goals.{in_default-via-in-Some+in_default, in_default-via-in_default}
use Rattle.bac_fields.proofs.services.confirmed.ConfirmedServiceFromFields.make.Goals as goal

pub returns-in-Some-eq60-clause-made : goal.returns-in-Some-eq60-clause-made
returns-in-Some-eq60-clause-made c = IfOk-weaker c.make.result _ _ (λ taken. row_made Confirmed refl 12 read_property (lit< tt) refl _ _ _ _) c.make.ensures.made

pub returns-in-Some-eq60-clause-stopped : goal.returns-in-Some-eq60-clause-stopped
returns-in-Some-eq60-clause-stopped c =
    let named = ap Some (sym c.in-Some-eq60.field-0-test) ∙ sym c.in-Some-eq60.is ∙ c.lead.ensures in
    IfErr-weaker c.make.result _ _ (λ fault. stop_then fault _ _ (λ q. row_stopped_at Confirmed refl 12 read_property 60 (lit< tt) refl refl c.args.octets.now c.args.fields.now named q)) c.make.ensures.stopped

pub returns-in-Some-eq61-clause-made : goal.returns-in-Some-eq61-clause-made
returns-in-Some-eq61-clause-made c = IfOk-weaker c.make-in-Some-eq61.result _ _ (λ taken. row_made Confirmed refl 14 read_property_multiple (lit< tt) refl _ _ _ _) c.make-in-Some-eq61.ensures.made

pub returns-in-Some-eq61-clause-stopped : goal.returns-in-Some-eq61-clause-stopped
returns-in-Some-eq61-clause-stopped c =
    let named = ap Some (sym c.in-Some-eq61.field-0-test) ∙ sym c.in-Some-eq61.is ∙ c.lead.ensures in
    IfErr-weaker c.make-in-Some-eq61.result _ _ (λ fault. stop_then fault _ _ (λ q. row_stopped_at Confirmed refl 14 read_property_multiple 61 (lit< tt) refl refl c.args.octets.now c.args.fields.now named q)) c.make-in-Some-eq61.ensures.stopped

pub returns-in-Some-eq62-clause-made : goal.returns-in-Some-eq62-clause-made
returns-in-Some-eq62-clause-made c = IfOk-weaker c.make-in-Some-eq62.result _ _ (λ taken. row_made Confirmed refl 15 write_property (lit< tt) refl _ _ _ _) c.make-in-Some-eq62.ensures.made

pub returns-in-Some-eq62-clause-stopped : goal.returns-in-Some-eq62-clause-stopped
returns-in-Some-eq62-clause-stopped c =
    let named = ap Some (sym c.in-Some-eq62.field-0-test) ∙ sym c.in-Some-eq62.is ∙ c.lead.ensures in
    IfErr-weaker c.make-in-Some-eq62.result _ _ (λ fault. stop_then fault _ _ (λ q. row_stopped_at Confirmed refl 15 write_property 62 (lit< tt) refl refl c.args.octets.now c.args.fields.now named q)) c.make-in-Some-eq62.ensures.stopped

pub returns-in-Some-eq63-clause-made : goal.returns-in-Some-eq63-clause-made
returns-in-Some-eq63-clause-made c = IfOk-weaker c.make-in-Some-eq63.result _ _ (λ taken. row_made Confirmed refl 16 write_property_multiple (lit< tt) refl _ _ _ _) c.make-in-Some-eq63.ensures.made

pub returns-in-Some-eq63-clause-stopped : goal.returns-in-Some-eq63-clause-stopped
returns-in-Some-eq63-clause-stopped c =
    let named = ap Some (sym c.in-Some-eq63.field-0-test) ∙ sym c.in-Some-eq63.is ∙ c.lead.ensures in
    IfErr-weaker c.make-in-Some-eq63.result _ _ (λ fault. stop_then fault _ _ (λ q. row_stopped_at Confirmed refl 16 write_property_multiple 63 (lit< tt) refl refl c.args.octets.now c.args.fields.now named q)) c.make-in-Some-eq63.ensures.stopped

pub returns-in-Some-eq66-clause-made : goal.returns-in-Some-eq66-clause-made
returns-in-Some-eq66-clause-made c = IfOk-weaker c.make-in-Some-eq66.result _ _ (λ taken. row_made Confirmed refl 5 subscribe_cov (lit< tt) refl _ _ _ _) c.make-in-Some-eq66.ensures.made

pub returns-in-Some-eq66-clause-stopped : goal.returns-in-Some-eq66-clause-stopped
returns-in-Some-eq66-clause-stopped c =
    let named = ap Some (sym c.in-Some-eq66.field-0-test) ∙ sym c.in-Some-eq66.is ∙ c.lead.ensures in
    IfErr-weaker c.make-in-Some-eq66.result _ _ (λ fault. stop_then fault _ _ (λ q. row_stopped_at Confirmed refl 5 subscribe_cov 66 (lit< tt) refl refl c.args.octets.now c.args.fields.now named q)) c.make-in-Some-eq66.ensures.stopped

pub returns-in-Some-eq67-clause-made : goal.returns-in-Some-eq67-clause-made
returns-in-Some-eq67-clause-made c = IfOk-weaker c.make-in-Some-eq67.result _ _ (λ taken. row_made Confirmed refl 1 cov_notification (lit< tt) refl _ _ _ _) c.make-in-Some-eq67.ensures.made

pub returns-in-Some-eq67-clause-stopped : goal.returns-in-Some-eq67-clause-stopped
returns-in-Some-eq67-clause-stopped c =
    let named = ap Some (sym c.in-Some-eq67.field-0-test) ∙ sym c.in-Some-eq67.is ∙ c.lead.ensures in
    IfErr-weaker c.make-in-Some-eq67.result _ _ (λ fault. stop_then fault _ _ (λ q. row_stopped_at Confirmed refl 1 cov_notification 67 (lit< tt) refl refl c.args.octets.now c.args.fields.now named q)) c.make-in-Some-eq67.ensures.stopped

pub returns-in-Some-eq69-clause-made : goal.returns-in-Some-eq69-clause-made
returns-in-Some-eq69-clause-made c = IfOk-weaker c.make-in-Some-eq69.result _ _ (λ taken. opaque_made Confirmed refl _ _ _ _) c.make-in-Some-eq69.ensures.made

pub returns-in-Some-eq69-clause-stopped : goal.returns-in-Some-eq69-clause-stopped
returns-in-Some-eq69-clause-stopped c =
    let named = ap Some (sym c.in-Some-eq69.field-0-test) ∙ sym c.in-Some-eq69.is ∙ c.lead.ensures in
    IfErr-weaker c.make-in-Some-eq69.result _ _ (λ fault. stop_then fault _ _ (λ q. opaque_stopped_at Confirmed refl c.args.octets.now c.args.fields.now named q)) c.make-in-Some-eq69.ensures.stopped

pub returns-in_default-clause-stopped : goal.returns-in_default-clause-stopped
returns-in_default-clause-stopped c = rw c.at.ensures (other_stopped_at Confirmed refl c.args.octets.now c.args.fields.now other)
  where
    named_other : (n : ℕ) (lead : Option ℕ) → lead ≡ Some n → (n ≡ 60 → ⊥) → (n ≡ 61 → ⊥) → (n ≡ 62 → ⊥) → (n ≡ 63 → ⊥) → (n ≡ 66 → ⊥) → (n ≡ 67 → ⊥) → (n ≡ 69 → ⊥) → IsTrue (has (service_leads Confirmed) lead) → ⊥
    named_other n lead is a0 a1 a2 a3 a4 a5 a6 h = not_first 60 n (Some 61 ∷ Some 62 ∷ Some 63 ∷ Some 66 ∷ Some 67 ∷ Some 69 ∷ []) a0 (not_first 61 n (Some 62 ∷ Some 63 ∷ Some 66 ∷ Some 67 ∷ Some 69 ∷ []) a1 (not_first 62 n (Some 63 ∷ Some 66 ∷ Some 67 ∷ Some 69 ∷ []) a2 (not_first 63 n (Some 66 ∷ Some 67 ∷ Some 69 ∷ []) a3 (not_first 66 n (Some 67 ∷ Some 69 ∷ []) a4 (not_first 67 n (Some 69 ∷ []) a5 (not_first 69 n [] a6 (λ i. absurd (cc)))))))) (subst (λ (l : Option ℕ). IsTrue (has (service_leads Confirmed) l)) is h)

    at_end : (lead : Option ℕ) → lead ≡ None → IsTrue (has (service_leads Confirmed) lead) → ⊥
    at_end lead is h = let none : IsTrue (has (service_leads Confirmed) None) = subst (λ (l : Option ℕ). IsTrue (has (service_leads Confirmed) l)) is h in absurd (cc)

    other : IsTrue (has (service_leads Confirmed) (lead_in c.args.fields.now)) → ⊥
    other h = elim c.in_default.branch [
      | in_default-via-in-Some+in_default w ↦ (let (((((((u, a0), a1), a2), a3), a4), a5), a6) = w.in_default.field-0-test in named_other _ (lead_in c.args.fields.now) (sym w.in_default.ensures) a0 a1 a2 a3 a4 a5 a6 h)
      | in_default-via-in_default w ↦ at_end (lead_in c.args.fields.now) (sym c.lead.ensures ∙ w.in_default.is) h
    ]
