use Rattle.bac_fields.proofs.OneFrame.{frame_same}
use Rattle.bac_fields.proofs.laws.fields_tell_the_frame.Goals as goal

pub returns : goal.returns
returns c = frame_same c.services_have_one_value.ensures
