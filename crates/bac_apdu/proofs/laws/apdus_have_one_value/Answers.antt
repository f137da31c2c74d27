use Rattle.bac_apdu.proofs.OnceLemmas.{apdu_once}
use Rattle.bac_apdu.proofs.laws.apdus_have_one_value.Goals as goal

pub returns : goal.returns
returns c = apdu_once c.services_have_one_value.ensures
