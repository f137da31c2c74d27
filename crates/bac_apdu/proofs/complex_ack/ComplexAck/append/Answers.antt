use Rattle.std.specs.Prelude.{◌≡◌, ◌<◌, ℕ, [], ◌∷◌}
use Rattle.std.proofs.Common.{sym, ap, subst, ◌∙◌}
use Rattle.std.proofs.lemmas.Result.{on_ok_weaker}
use Rattle.bac_service.specs.declared.kind.Kind.TheVariants.{ComplexAck}
use Rattle.bac_service.specs.Services.{value_of as service_of}
use Rattle.bac_tag.specs.HeadOctets.{least_head}
use Rattle.bac_apdu.specs.Apdus.{complex_ack, head_of}
use Rattle.bac_apdu.proofs.AppendingLemmas.{appends_behind}
use Rattle.bac_apdu.proofs.complex_ack.ComplexAck.append.Goals as goal

pub returns-clause-written : goal.returns-clause-written
returns-clause-written c =
    let service = service_of c.service-service.result.now in
    let value = complex_ack c.args.self.now.invoke service in
    let head = 48 ∷ c.invoke.result ∷ c.choice.result ∷ [] in
    let same : head ≡ least_head (head_of value) = ap (λ (n : ℕ). 48 ∷ n ∷ c.choice.result ∷ []) c.invoke.ensures ∙ ap (λ (n : ℕ). 48 ∷ c.args.self.now.invoke ∷ n ∷ []) c.choice.ensures in
    rw (sym c.service-service.ensures.service)
    (on_ok_weaker c.append_behind.result (appends_behind value ComplexAck service c.args.out.now.items head c.append_behind.new.out.items c.type_inv.out c.service-service.ensures.kind (λ o. (tt, (subst (λ (n : ℕ). n < 256) c.invoke.ensures o.1.0, (subst (λ (n : ℕ). n < 256) c.choice.ensures o.1.1.0, tt)))) same (λ L. L)) c.append_behind.ensures.written)
