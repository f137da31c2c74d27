use Rattle.std.specs.Prelude.{◌≡◌, ◌<◌, ℕ, [], ◌∷◌}
use Rattle.std.proofs.Common.{sym, ap, subst}
use Rattle.std.proofs.lemmas.Result.{on_ok_weaker}
use Rattle.bac_service.specs.declared.kind.Kind.TheVariants.{Unconfirmed}
use Rattle.bac_service.specs.Services.{value_of as service_of}
use Rattle.bac_tag.specs.HeadOctets.{least_head}
use Rattle.bac_apdu.specs.Apdus.{unconfirmed_request, head_of}
use Rattle.bac_apdu.proofs.AppendingLemmas.{appends_behind}
use Rattle.bac_apdu.proofs.unconfirmed_request.UnconfirmedRequest.append.Goals as goal

pub returns-clause-written : goal.returns-clause-written
returns-clause-written c =
    let service = service_of c.service-service.result.now in
    let value = unconfirmed_request service in
    let head = 16 ∷ c.choice.result ∷ [] in
    let same : head ≡ least_head (head_of value) = ap (λ (n : ℕ). 16 ∷ n ∷ []) c.choice.ensures in
    rw (sym c.service-service.ensures.service)
    (on_ok_weaker c.append_behind.result (appends_behind value Unconfirmed service c.args.out.now.items head c.append_behind.new.out.items c.type_inv.out c.service-service.ensures.kind (λ o. (tt, (subst (λ (n : ℕ). n < 256) c.choice.ensures o.1.0, tt))) same (λ L. L)) c.append_behind.ensures.written)
