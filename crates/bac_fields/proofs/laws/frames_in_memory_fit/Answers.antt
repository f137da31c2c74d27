use Rattle.bac_fields.proofs.FramePlaces.{frame_fits}
use Rattle.bac_fields.proofs.laws.frames_in_memory_fit.Goals as goal

pub returns : goal.returns
returns c = frame_fits
