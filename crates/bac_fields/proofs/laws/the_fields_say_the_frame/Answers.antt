use Rattle.bac_fields.specs.FrameFields.{frame_steps}
use Rattle.bac_fields.proofs.SaidPlaces.{places_say}
use Rattle.bac_fields.proofs.laws.the_fields_say_the_frame.Goals as goal

pub returns : goal.returns
returns c f octets least = places_say octets (frame_steps f) 0 (c.the_places_are_right.ensures f octets least)
