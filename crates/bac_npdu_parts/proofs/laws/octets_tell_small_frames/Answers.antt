use Rattle.bac_npdu_parts.proofs.SmallLemmas.{frame_small}
use Rattle.bac_npdu_parts.proofs.laws.octets_tell_small_frames.Goals as goal

pub returns : goal.returns
returns c = frame_small c.octets_tell_small_apdus.ensures
