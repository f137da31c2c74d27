use Rattle.bac_fields.proofs.FramePlaces.{frame_places}
use Rattle.bac_fields.proofs.laws.the_places_are_right.Goals as goal

pub returns : goal.returns
returns c = frame_places
