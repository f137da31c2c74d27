use Rattle.std.proofs.Common.{ap}
use Rattle.bac_apdu.specs.Apdus.{value_of as apdu_value}
use Rattle.bac_npdu_parts.specs.Messages.{message_value}
use Rattle.bac_npdu_parts.specs.Frames.{apdu, message, body_value, value_of}
use Rattle.bac_npdu_parts.proofs.HeldLemmas.{frame_held}
use Rattle.bac_npdu_parts.proofs.laws.held_frames_have_canonical_octets.Goals as goal

pub returns-in-Apdu : goal.returns-in-Apdu
returns-in-Apdu c =
    let to = c.held_destination_fits.ensures in
    let from = c.held_source_fits.ensures in
    frame_held (value_of c.args.frame.now) c.held_priority_fits.ensures to.parts to.hops from.parts from.some (apdu (apdu_value c.in-Apdu.apdu)) (ap body_value c.in-Apdu.is) c.held_apdus_have_canonical_octets.ensures

pub returns-in-Net : goal.returns-in-Net
returns-in-Net c =
    let to = c.held_destination_fits.ensures in
    let from = c.held_source_fits.ensures in
    frame_held (value_of c.args.frame.now) c.held_priority_fits.ensures to.parts to.hops from.parts from.some (message (message_value c.in-Net.message)) (ap body_value c.in-Net.is) c.held_messages_have_canonical_octets.ensures
