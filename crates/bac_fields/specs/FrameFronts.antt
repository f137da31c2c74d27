-- What was read before the body of a frame.
use Rattle.bac_npdu_parts.specs.FrameHeads.{address_read}
use Rattle.bac_fields.specs.declared.frame_heads.Front.{Front}
use Rattle.bac_fields.specs.FrameSymbols.{HeadSaid, destination_parts}

-- What the fields say that were read before the body of a frame.
abbrev pub front_said : Front → HeadSaid
front_said front = ((front.priority, front.reply), (destination_parts front.to, address_read front.from))
