use Rattle.std.proofs.Common.{◌≡◌, sym, subst, ◌∙◌}
use Rattle.std.specs.Bool.{Decides}
use Rattle.bac_service.specs.Services.{value_of}
use Rattle.bac_service.proofs.SameLemmas.{same_service, service_is, services_tell}
use Rattle.bac_service.proofs.laws.equal_services_are_the_same.Goals as goal

pub returns : goal.returns
returns c = λ kind other choice another s t x y.
    let answer : c.eq.result ≡ same_service c.args.a.now c.args.b.now = c.eq.ensures ∙ service_is c.args.a.now c.args.b.now in
    subst (λ r. Decides r (value_of c.args.a.now ≡ value_of c.args.b.now)) (sym answer)
    (services_tell (λ number v b h. (c.only_open_values_are_spelled.ensures 32 number v b h).1.0) c.args.a.now c.args.b.now kind other choice another s t x y)
