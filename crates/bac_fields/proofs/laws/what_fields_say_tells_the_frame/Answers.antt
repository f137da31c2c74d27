use Rattle.bac_fields.proofs.OnceFrames.{frame_same}
use Rattle.bac_fields.proofs.laws.what_fields_say_tells_the_frame.Goals as goal

pub returns : goal.returns
returns c = frame_same
