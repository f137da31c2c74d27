use Rattle.std.specs.Prelude.{◌↔◌}
use Rattle.bac_productions.specs.Laws.Least.{least_alike}
use Rattle.bac_service.proofs.WideningLemmas.{former_same}
use Rattle.bac_service.proofs.laws.former_services_are_kept.Goals as goal

back : {S T : Type 0} → S ↔ T → T ↔ S
back e = (e.1, e.0)

pub returns-clause-spelled : goal.returns-clause-spelled
returns-clause-spelled c = former_same

pub returns-clause-canonical : goal.returns-clause-canonical
returns-clause-canonical c kind choice v b other s =
    let now = c.services_have_canonical_octets.ensures kind choice v b ((former_same kind choice v b b other s).0 s) in
    (now.0, least_alike (λ d. back (former_same kind choice v b d other s)) now.1)

pub returns-clause-least : goal.returns-clause-least
returns-clause-least c kind choice v b other l = least_alike (λ d. former_same kind choice v b d other l.member) l
