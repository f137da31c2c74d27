use Rattle.bac_npdu_parts.proofs.OnceLemmas.{frame_one}
use Rattle.bac_npdu_parts.proofs.laws.frames_have_one_value.Goals as goal

pub returns : goal.returns
returns c = frame_one c.apdus_have_one_value.ensures
