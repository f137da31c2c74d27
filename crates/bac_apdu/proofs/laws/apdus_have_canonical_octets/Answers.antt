use Rattle.bac_apdu.proofs.LawLemmas.{apdu_least}
use Rattle.bac_apdu.proofs.laws.apdus_have_canonical_octets.Goals as goal

pub returns : goal.returns
returns c = apdu_least c.services_have_canonical_octets.ensures
