use Rattle.bac_apdu.proofs.CaseLemmas.{by_case, of_case}
use Rattle.bac_apdu.proofs.laws.apdus_are_viable_in_a_case.Goals as goal

pub returns : goal.returns
returns c b = (λ v. by_case v.value b v.rest v.spelled, of_case b)
