use Rattle.bac_npdu_parts.proofs.LawLemmas.{frame_canonical}
use Rattle.bac_npdu_parts.proofs.laws.frames_have_canonical_octets.Goals as goal

pub returns : goal.returns
returns c = frame_canonical c.apdus_have_canonical_octets.ensures
