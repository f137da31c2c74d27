use Rattle.std.specs.Prelude.{◌≡◌, ◌<◌, ◌+◌, ◌*◌, ℕ, [], ◌∷◌}
use Rattle.std.proofs.Common.{sym, ap, subst, ◌∙◌, arith}
use Rattle.std.proofs.lemmas.Result.{on_ok_weaker}
use Rattle.bac_service.specs.declared.kind.Kind.TheVariants.{Confirmed}
use Rattle.bac_service.specs.Services.{value_of as service_of}
use Rattle.bac_tag.specs.HeadOctets.{least_head}
use Rattle.bac_apdu.specs.Apdus.{confirmed_request, head_of}
use Rattle.bac_apdu.proofs.AppendingLemmas.{appends_behind}
use Rattle.bac_apdu.proofs.confirmed_request.ConfirmedRequest.append.Goals as goal

pub returns-clause-written : goal.returns-clause-written
returns-clause-written c =
    let service = service_of c.service-service.result.now in
    let limits : 16 * c.number.result + c.number-2.result ≡ 16 * c.head-head.result.segs + c.head-head.result.resp = omega (arith, c.number.ensures.number, c.number-2.ensures.number) in
    let value = confirmed_request c.head-head.result service in
    let head = c.first_octet.result ∷ (16 * c.number.result + c.number-2.result) ∷ c.head-head.result.invoke ∷ c.choice.result ∷ [] in
    let same : head ≡ least_head (head_of value) = ap (λ (n : ℕ). c.first_octet.result ∷ (16 * c.number.result + c.number-2.result) ∷ c.head-head.result.invoke ∷ n ∷ []) c.choice.ensures
    ∙ ap (λ (n : ℕ). c.first_octet.result ∷ n ∷ c.head-head.result.invoke ∷ service.choice ∷ []) limits
    ∙ ap (λ (n : ℕ). n ∷ (16 * c.head-head.result.segs + c.head-head.result.resp) ∷ c.head-head.result.invoke ∷ service.choice ∷ []) c.first_octet.ensures in
    rw (sym c.service-service.ensures.service, sym c.head-head.ensures)
    (on_ok_weaker c.append_behind.result (appends_behind value Confirmed service c.args.out.now.items head c.append_behind.new.out.items c.type_inv.out c.service-service.ensures.kind (λ o. (tt, ((subst (λ (n : ℕ). n < 8) c.number.ensures.number c.number.ensures.range, subst (λ (n : ℕ). n < 16) c.number-2.ensures.number c.number-2.ensures.range), (o.1.1.0, (subst (λ (n : ℕ). n < 256) c.choice.ensures o.1.1.1.0, tt))))) same (λ L. L)) c.append_behind.ensures.written)
