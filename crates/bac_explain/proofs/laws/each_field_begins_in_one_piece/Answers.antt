use Rattle.bac_fields.specs.FrameFields.{frame_steps}
use Rattle.bac_explain.proofs.FieldLemmas.{fields-once}
use Rattle.bac_explain.proofs.laws.each_field_begins_in_one_piece.Goals as goal

pub returns : goal.returns
returns c = λ f octets pieces least tiles. fields-once octets pieces tiles 0 (frame_steps f) (c.the_places_are_right.ensures f octets least)
