use Rattle.bac_npdu_parts.proofs.LawLemmas.{frame_no_longer}
use Rattle.bac_npdu_parts.proofs.laws.canonical_octets_are_no_longer.Goals as goal

pub returns : goal.returns
returns c = frame_no_longer
