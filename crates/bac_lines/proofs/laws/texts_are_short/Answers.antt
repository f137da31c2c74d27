use Rattle.bac_lines.proofs.FrameLengths.{frame_short}
use Rattle.bac_lines.proofs.laws.texts_are_short.Goals as goal

pub returns : goal.returns
returns c = frame_short
