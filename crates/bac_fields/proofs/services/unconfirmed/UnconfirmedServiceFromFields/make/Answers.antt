use Rattle.std.proofs.Common.{refl, ◌≡◌, sym, ◌∙◌, ap, lit<}
use Rattle.std.specs.Prelude.{Some, None, Option, ℕ, ◌∷◌, [], IsTrue}
use Rattle.std.proofs.Common.{subst}
use Rattle.bac_fields.specs.ServiceSymbols.{service_leads}
use Rattle.bac_field_parts.specs.Symbols.{has, lead_in}
use Rattle.std.proofs.lemmas.Result.{IfOk-weaker, IfErr-weaker}
use Rattle.bac_service.specs.ServiceTable.{who_is, i_am, cov_notification}
use Rattle.bac_service.specs.declared.kind.Kind.TheVariants.{Unconfirmed}
use Rattle.bac_field_parts.specs.Laws.Making.{stop_then}
use Rattle.bac_fields.specs.Laws.Services.{row_made, row_stopped_at, opaque_made, opaque_stopped_at, other_stopped_at, not_first}
use Rattle.bac_fields.proofs.services.unconfirmed.UnconfirmedServiceFromFields.make.Goals.{in_default-via-in-Some+in_default, in_default-via-in_default}
use Rattle.bac_fields.proofs.services.unconfirmed.UnconfirmedServiceFromFields.make.Goals as goal

pub returns-in-Some-eq64-clause-made : goal.returns-in-Some-eq64-clause-made
returns-in-Some-eq64-clause-made c = IfOk-weaker c.make.result _ _ (λ taken. row_made Unconfirmed refl 8 who_is (lit< tt) refl _ _ _ _) c.make.ensures.made

pub returns-in-Some-eq64-clause-stopped : goal.returns-in-Some-eq64-clause-stopped
returns-in-Some-eq64-clause-stopped c =
    IfErr-weaker c.make.result _ _ (λ fault. stop_then fault _ _ (λ q. row_stopped_at Unconfirmed refl 8 who_is 64 (lit< tt) refl refl c.args.octets.now c.args.fields.now (ap Some (sym c.in-Some-eq64.field-0-test) ∙ sym c.in-Some-eq64.is ∙ c.lead.ensures) q)) c.make.ensures.stopped

pub returns-in-Some-eq65-clause-made : goal.returns-in-Some-eq65-clause-made
returns-in-Some-eq65-clause-made c = IfOk-weaker c.make-in-Some-eq65.result _ _ (λ taken. row_made Unconfirmed refl 0 i_am (lit< tt) refl _ _ _ _) c.make-in-Some-eq65.ensures.made

pub returns-in-Some-eq65-clause-stopped : goal.returns-in-Some-eq65-clause-stopped
returns-in-Some-eq65-clause-stopped c =
    IfErr-weaker c.make-in-Some-eq65.result _ _ (λ fault. stop_then fault _ _ (λ q. row_stopped_at Unconfirmed refl 0 i_am 65 (lit< tt) refl refl c.args.octets.now c.args.fields.now (ap Some (sym c.in-Some-eq65.field-0-test) ∙ sym c.in-Some-eq65.is ∙ c.lead.ensures) q)) c.make-in-Some-eq65.ensures.stopped

pub returns-in-Some-eq68-clause-made : goal.returns-in-Some-eq68-clause-made
returns-in-Some-eq68-clause-made c = IfOk-weaker c.make-in-Some-eq68.result _ _ (λ taken. row_made Unconfirmed refl 2 cov_notification (lit< tt) refl _ _ _ _) c.make-in-Some-eq68.ensures.made

pub returns-in-Some-eq68-clause-stopped : goal.returns-in-Some-eq68-clause-stopped
returns-in-Some-eq68-clause-stopped c =
    IfErr-weaker c.make-in-Some-eq68.result _ _ (λ fault. stop_then fault _ _ (λ q. row_stopped_at Unconfirmed refl 2 cov_notification 68 (lit< tt) refl refl c.args.octets.now c.args.fields.now (ap Some (sym c.in-Some-eq68.field-0-test) ∙ sym c.in-Some-eq68.is ∙ c.lead.ensures) q)) c.make-in-Some-eq68.ensures.stopped

pub returns-in-Some-eq69-clause-made : goal.returns-in-Some-eq69-clause-made
returns-in-Some-eq69-clause-made c = IfOk-weaker c.make-in-Some-eq69.result _ _ (λ taken. opaque_made Unconfirmed refl _ _ _ _) c.make-in-Some-eq69.ensures.made

pub returns-in-Some-eq69-clause-stopped : goal.returns-in-Some-eq69-clause-stopped
returns-in-Some-eq69-clause-stopped c =
    IfErr-weaker c.make-in-Some-eq69.result _ _ (λ fault. stop_then fault _ _ (λ q. opaque_stopped_at Unconfirmed refl c.args.octets.now c.args.fields.now (ap Some (sym c.in-Some-eq69.field-0-test) ∙ sym c.in-Some-eq69.is ∙ c.lead.ensures) q)) c.make-in-Some-eq69.ensures.stopped

pub returns-in_default-clause-stopped : goal.returns-in_default-clause-stopped
returns-in_default-clause-stopped c = rw c.at.ensures (other_stopped_at Unconfirmed refl c.args.octets.now c.args.fields.now other)
  where
    named_other : (n : ℕ) (lead : Option ℕ) → lead ≡ Some n → (n ≡ 64 → ⊥) → (n ≡ 65 → ⊥) → (n ≡ 68 → ⊥) → (n ≡ 69 → ⊥) → IsTrue (has (service_leads Unconfirmed) lead) → ⊥
    named_other n lead is a b d e h = not_first 64 n (Some 65 ∷ Some 68 ∷ Some 69 ∷ []) a (not_first 65 n (Some 68 ∷ Some 69 ∷ []) b (not_first 68 n (Some 69 ∷ []) d (not_first 69 n [] e (λ i. absurd (cc))))) (subst (λ (l : Option ℕ). IsTrue (has (service_leads Unconfirmed) l)) is h)

    at_end : (lead : Option ℕ) → lead ≡ None → IsTrue (has (service_leads Unconfirmed) lead) → ⊥
    at_end lead is h = let none : IsTrue (has (service_leads Unconfirmed) None) = subst (λ (l : Option ℕ). IsTrue (has (service_leads Unconfirmed) l)) is h in absurd (cc)

    other : IsTrue (has (service_leads Unconfirmed) (lead_in c.args.fields.now)) → ⊥
    other h = elim c.in_default.branch [ in_default-via-in-Some+in_default w ↦ (let ((((u, a), b), d), e) = w.in_default.field-0-test in named_other _ (lead_in c.args.fields.now) (sym w.in_default.ensures) a b d e h) | in_default-via-in_default w ↦ at_end (lead_in c.args.fields.now) (sym c.lead.ensures ∙ w.in_default.is) h ]
