use Rattle.bac_productions.specs.Laws.Least.{least_alike}
use Rattle.bac_apdu.proofs.FormerLemmas.{apdu_same, back}
use Rattle.bac_apdu.proofs.laws.former_apdus_are_kept.Goals as goal

pub returns-clause-spelled : goal.returns-clause-spelled
returns-clause-spelled c = apdu_same c.former_services_are_kept.ensures.spelled

pub returns-clause-canonical : goal.returns-clause-canonical
returns-clause-canonical c v b kept s =
    let same = apdu_same c.former_services_are_kept.ensures.spelled v b in
    let now = c.apdus_have_canonical_octets.ensures v b ((same b kept s).0 s) in
    (now.0, least_alike (λ d. back (same d kept s)) now.1)

pub returns-clause-least : goal.returns-clause-least
returns-clause-least c v b kept l = least_alike (λ d. apdu_same c.former_services_are_kept.ensures.spelled v b d kept l.member) l
