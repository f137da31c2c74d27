use Rattle.bac_npdu_parts.specs.FrameHeads.{frame_with}
use Rattle.bac_npdu_parts.specs.Frames.{SpellsFrame, body_value}
use Rattle.bac_c.proofs.FrameLemmas.{least_alone}
use Rattle.bac_c.proofs.in_place.canonical_of.Goals as goal

pub returns-in-Ok-append_frame : goal.returns-in-Ok-append_frame
returns-in-Ok-append_frame c =
    least_alone (SpellsFrame (frame_with c.args.head.now (body_value c.args.body.now))) c.in-Ok.canonical.items c.append_frame.new.out.items c.in-Ok.ensures.items c.in-Ok-append_frame.ensures.written
