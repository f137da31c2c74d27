use Rattle.std.specs.Prelude.{Some, None, Option, ℕ, ◌∷◌, [], IsTrue}
use Rattle.std.proofs.Common.{refl, ◌≡◌, sym, ◌∙◌, ap, subst}
use Rattle.std.proofs.lemmas.Result.{IfOk-weaker, IfErr-weaker}
use Rattle.bac_fields.specs.ApduSymbols.{apdu_leads, confirmed_request, unconfirmed_request, simple_ack, complex_ack, segment_ack, error, reject, abort, request_segment, ack_segment}
use Rattle.bac_field_parts.specs.Symbols.{has, lead_in}
use Rattle.bac_field_parts.specs.Laws.Making.{stop_then}
use Rattle.bac_fields.specs.Laws.Apdus.{type_made, type_stopped_at, no_apdu_stopped_at}
use Rattle.bac_fields.specs.Laws.Services.{not_first}
use Rattle.bac_fields.proofs.apdus.ApduFieldsFromFields.make.Goals.{in_default-via-in-Some+in_default, in_default-via-in_default}
use Rattle.bac_fields.proofs.apdus.ApduFieldsFromFields.make.Goals as goal

pub returns-in-Some-eq10-clause-made : goal.returns-in-Some-eq10-clause-made
returns-in-Some-eq10-clause-made c = IfOk-weaker c.make.result _ _ (λ taken. type_made confirmed_request _ _ _ _) c.make.ensures.made

pub returns-in-Some-eq10-clause-stopped : goal.returns-in-Some-eq10-clause-stopped
returns-in-Some-eq10-clause-stopped c =
    let named = ap Some (sym c.in-Some-eq10.field-0-test) ∙ sym c.in-Some-eq10.is ∙ c.lead.ensures in
    IfErr-weaker c.make.result _ _ (λ fault. stop_then fault _ _ (λ q. type_stopped_at confirmed_request 10 refl c.args.octets.now c.args.fields.now named q)) c.make.ensures.stopped

pub returns-in-Some-eq11-clause-made : goal.returns-in-Some-eq11-clause-made
returns-in-Some-eq11-clause-made c = IfOk-weaker c.make-in-Some-eq11.result _ _ (λ taken. type_made unconfirmed_request _ _ _ _) c.make-in-Some-eq11.ensures.made

pub returns-in-Some-eq11-clause-stopped : goal.returns-in-Some-eq11-clause-stopped
returns-in-Some-eq11-clause-stopped c =
    let named = ap Some (sym c.in-Some-eq11.field-0-test) ∙ sym c.in-Some-eq11.is ∙ c.lead.ensures in
    IfErr-weaker c.make-in-Some-eq11.result _ _ (λ fault. stop_then fault _ _ (λ q. type_stopped_at unconfirmed_request 11 refl c.args.octets.now c.args.fields.now named q)) c.make-in-Some-eq11.ensures.stopped

pub returns-in-Some-eq12-clause-made : goal.returns-in-Some-eq12-clause-made
returns-in-Some-eq12-clause-made c = IfOk-weaker c.make-in-Some-eq12.result _ _ (λ taken. type_made simple_ack _ _ _ _) c.make-in-Some-eq12.ensures.made

pub returns-in-Some-eq12-clause-stopped : goal.returns-in-Some-eq12-clause-stopped
returns-in-Some-eq12-clause-stopped c =
    let named = ap Some (sym c.in-Some-eq12.field-0-test) ∙ sym c.in-Some-eq12.is ∙ c.lead.ensures in
    IfErr-weaker c.make-in-Some-eq12.result _ _ (λ fault. stop_then fault _ _ (λ q. type_stopped_at simple_ack 12 refl c.args.octets.now c.args.fields.now named q)) c.make-in-Some-eq12.ensures.stopped

pub returns-in-Some-eq13-clause-made : goal.returns-in-Some-eq13-clause-made
returns-in-Some-eq13-clause-made c = IfOk-weaker c.make-in-Some-eq13.result _ _ (λ taken. type_made complex_ack _ _ _ _) c.make-in-Some-eq13.ensures.made

pub returns-in-Some-eq13-clause-stopped : goal.returns-in-Some-eq13-clause-stopped
returns-in-Some-eq13-clause-stopped c =
    let named = ap Some (sym c.in-Some-eq13.field-0-test) ∙ sym c.in-Some-eq13.is ∙ c.lead.ensures in
    IfErr-weaker c.make-in-Some-eq13.result _ _ (λ fault. stop_then fault _ _ (λ q. type_stopped_at complex_ack 13 refl c.args.octets.now c.args.fields.now named q)) c.make-in-Some-eq13.ensures.stopped

pub returns-in-Some-eq14-clause-made : goal.returns-in-Some-eq14-clause-made
returns-in-Some-eq14-clause-made c = IfOk-weaker c.make-in-Some-eq14.result _ _ (λ taken. type_made segment_ack _ _ _ _) c.make-in-Some-eq14.ensures.made

pub returns-in-Some-eq14-clause-stopped : goal.returns-in-Some-eq14-clause-stopped
returns-in-Some-eq14-clause-stopped c =
    let named = ap Some (sym c.in-Some-eq14.field-0-test) ∙ sym c.in-Some-eq14.is ∙ c.lead.ensures in
    IfErr-weaker c.make-in-Some-eq14.result _ _ (λ fault. stop_then fault _ _ (λ q. type_stopped_at segment_ack 14 refl c.args.octets.now c.args.fields.now named q)) c.make-in-Some-eq14.ensures.stopped

pub returns-in-Some-eq15-clause-made : goal.returns-in-Some-eq15-clause-made
returns-in-Some-eq15-clause-made c = IfOk-weaker c.make-in-Some-eq15.result _ _ (λ taken. type_made error _ _ _ _) c.make-in-Some-eq15.ensures.made

pub returns-in-Some-eq15-clause-stopped : goal.returns-in-Some-eq15-clause-stopped
returns-in-Some-eq15-clause-stopped c =
    let named = ap Some (sym c.in-Some-eq15.field-0-test) ∙ sym c.in-Some-eq15.is ∙ c.lead.ensures in
    IfErr-weaker c.make-in-Some-eq15.result _ _ (λ fault. stop_then fault _ _ (λ q. type_stopped_at error 15 refl c.args.octets.now c.args.fields.now named q)) c.make-in-Some-eq15.ensures.stopped

pub returns-in-Some-eq16-clause-made : goal.returns-in-Some-eq16-clause-made
returns-in-Some-eq16-clause-made c = IfOk-weaker c.make-in-Some-eq16.result _ _ (λ taken. type_made reject _ _ _ _) c.make-in-Some-eq16.ensures.made

pub returns-in-Some-eq16-clause-stopped : goal.returns-in-Some-eq16-clause-stopped
returns-in-Some-eq16-clause-stopped c =
    let named = ap Some (sym c.in-Some-eq16.field-0-test) ∙ sym c.in-Some-eq16.is ∙ c.lead.ensures in
    IfErr-weaker c.make-in-Some-eq16.result _ _ (λ fault. stop_then fault _ _ (λ q. type_stopped_at reject 16 refl c.args.octets.now c.args.fields.now named q)) c.make-in-Some-eq16.ensures.stopped

pub returns-in-Some-eq17-clause-made : goal.returns-in-Some-eq17-clause-made
returns-in-Some-eq17-clause-made c = IfOk-weaker c.make-in-Some-eq17.result _ _ (λ taken. type_made abort _ _ _ _) c.make-in-Some-eq17.ensures.made

pub returns-in-Some-eq17-clause-stopped : goal.returns-in-Some-eq17-clause-stopped
returns-in-Some-eq17-clause-stopped c =
    let named = ap Some (sym c.in-Some-eq17.field-0-test) ∙ sym c.in-Some-eq17.is ∙ c.lead.ensures in
    IfErr-weaker c.make-in-Some-eq17.result _ _ (λ fault. stop_then fault _ _ (λ q. type_stopped_at abort 17 refl c.args.octets.now c.args.fields.now named q)) c.make-in-Some-eq17.ensures.stopped

pub returns-in-Some-eq18-clause-made : goal.returns-in-Some-eq18-clause-made
returns-in-Some-eq18-clause-made c = IfOk-weaker c.make-in-Some-eq18.result _ _ (λ taken. type_made request_segment _ _ _ _) c.make-in-Some-eq18.ensures.made

pub returns-in-Some-eq18-clause-stopped : goal.returns-in-Some-eq18-clause-stopped
returns-in-Some-eq18-clause-stopped c =
    let named = ap Some (sym c.in-Some-eq18.field-0-test) ∙ sym c.in-Some-eq18.is ∙ c.lead.ensures in
    IfErr-weaker c.make-in-Some-eq18.result _ _ (λ fault. stop_then fault _ _ (λ q. type_stopped_at request_segment 18 refl c.args.octets.now c.args.fields.now named q)) c.make-in-Some-eq18.ensures.stopped

pub returns-in-Some-eq19-clause-made : goal.returns-in-Some-eq19-clause-made
returns-in-Some-eq19-clause-made c = IfOk-weaker c.make-in-Some-eq19.result _ _ (λ taken. type_made ack_segment _ _ _ _) c.make-in-Some-eq19.ensures.made

pub returns-in-Some-eq19-clause-stopped : goal.returns-in-Some-eq19-clause-stopped
returns-in-Some-eq19-clause-stopped c =
    let named = ap Some (sym c.in-Some-eq19.field-0-test) ∙ sym c.in-Some-eq19.is ∙ c.lead.ensures in
    IfErr-weaker c.make-in-Some-eq19.result _ _ (λ fault. stop_then fault _ _ (λ q. type_stopped_at ack_segment 19 refl c.args.octets.now c.args.fields.now named q)) c.make-in-Some-eq19.ensures.stopped

pub returns-in_default-clause-stopped : goal.returns-in_default-clause-stopped
returns-in_default-clause-stopped c = rw c.at.ensures (no_apdu_stopped_at c.args.octets.now c.args.fields.now other)
  where
    named_other : (n : ℕ) (lead : Option ℕ) → lead ≡ Some n → (n ≡ 10 → ⊥) → (n ≡ 11 → ⊥) → (n ≡ 12 → ⊥) → (n ≡ 13 → ⊥) → (n ≡ 14 → ⊥) → (n ≡ 15 → ⊥) → (n ≡ 16 → ⊥) → (n ≡ 17 → ⊥) → (n ≡ 18 → ⊥) → (n ≡ 19 → ⊥) → IsTrue (has apdu_leads lead) → ⊥
    named_other n lead is a0 a1 a2 a3 a4 a5 a6 a7 a8 a9 h = (not_first 10 n (Some 11 ∷ Some 12 ∷ Some 13 ∷ Some 14 ∷ Some 15 ∷ Some 16 ∷ Some 17 ∷ Some 18 ∷ Some 19 ∷ []) a0 (not_first 11 n (Some 12 ∷ Some 13 ∷ Some 14 ∷ Some 15 ∷ Some 16 ∷ Some 17 ∷ Some 18 ∷ Some 19 ∷ []) a1 (not_first 12 n (Some 13 ∷ Some 14 ∷ Some 15 ∷ Some 16 ∷ Some 17 ∷ Some 18 ∷ Some 19 ∷ []) a2 (not_first 13 n (Some 14 ∷ Some 15 ∷ Some 16 ∷ Some 17 ∷ Some 18 ∷ Some 19 ∷ []) a3 (not_first 14 n (Some 15 ∷ Some 16 ∷ Some 17 ∷ Some 18 ∷ Some 19 ∷ []) a4 (not_first 15 n (Some 16 ∷ Some 17 ∷ Some 18 ∷ Some 19 ∷ []) a5 (not_first 16 n (Some 17 ∷ Some 18 ∷ Some 19 ∷ []) a6 (not_first 17 n (Some 18 ∷ Some 19 ∷ []) a7 (not_first 18 n (Some 19 ∷ []) a8 (not_first 19 n [] a9 (λ i. absurd (cc)))))))))))) (subst (λ (l : Option ℕ). IsTrue (has apdu_leads l)) is h)

    at_end : (lead : Option ℕ) → lead ≡ None → IsTrue (has apdu_leads lead) → ⊥
    at_end lead is h = let none : IsTrue (has apdu_leads None) = subst (λ (l : Option ℕ). IsTrue (has apdu_leads l)) is h in absurd (cc)

    other : IsTrue (has apdu_leads (lead_in c.args.fields.now)) → ⊥
    other h = elim c.in_default.branch [
      | in_default-via-in-Some+in_default w ↦ (let ((((((((((u, a0), a1), a2), a3), a4), a5), a6), a7), a8), a9) = w.in_default.field-0-test in named_other _ (lead_in c.args.fields.now) (sym w.in_default.ensures) a0 a1 a2 a3 a4 a5 a6 a7 a8 a9 h)
      | in_default-via-in_default w ↦ at_end (lead_in c.args.fields.now) (sym c.lead.ensures ∙ w.in_default.is) h
    ]
