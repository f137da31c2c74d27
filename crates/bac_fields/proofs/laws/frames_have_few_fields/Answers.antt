use Rattle.bac_fields.proofs.FramePlaces.{frame_few}
use Rattle.bac_fields.proofs.laws.frames_have_few_fields.Goals as goal

pub returns : goal.returns
returns c = frame_few
