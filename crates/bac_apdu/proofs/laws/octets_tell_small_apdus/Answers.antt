use Rattle.bac_apdu.proofs.LawLemmas.{small_begins}
use Rattle.bac_apdu.proofs.laws.octets_tell_small_apdus.Goals as goal

pub returns : goal.returns
returns c = small_begins
