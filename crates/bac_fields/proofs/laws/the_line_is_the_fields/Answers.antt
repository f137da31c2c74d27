use Rattle.bac_fields.proofs.FrameLines.{frame_line}
use Rattle.bac_fields.proofs.laws.the_line_is_the_fields.Goals as goal

pub returns : goal.returns
returns c = frame_line
