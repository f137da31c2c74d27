use Rattle.bac_apdu.proofs.LawLemmas.{segment_least}
use Rattle.bac_apdu.proofs.laws.segments_are_heads_and_pieces.Goals as goal

pub returns : goal.returns
returns c = segment_least
