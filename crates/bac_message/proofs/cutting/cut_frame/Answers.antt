use Rattle.std.proofs.Common.{map}
use Rattle.bac_service.specs.Services.{value_of as service_of}
use Rattle.bac_npdu_parts.specs.Frames.{value_of}
use Rattle.bac_segment.specs.Deliveries.{delivery}
use Rattle.bac_message.specs.Messages.{Message, head_of}
use Rattle.bac_message.proofs.CuttingLemmas.{cut_failed, cut_made, octets_are}
use Rattle.bac_message.proofs.cutting.cut_frame.Goals as goal

pub returns-in-Err-clause-fault : goal.returns-in-Err-clause-fault
returns-in-Err-clause-fault c =
    let m : Message = record { frame = head_of (value_of c.args.frame.now); head = c.in-Some.head; service = service_of c.in-Some.service.now } in
    cut_failed (value_of c.args.frame.now) m c.args.size c.args.window c.choice.result c.deref.result.now c.cut.result c.in-Err.fault c.in-Some.ensures.message c.in-Some.ensures.kind (octets_are m.service c.in-Ok.octets.items c.deref.result.now c.deref.ensures.value c.in-Ok.ensures)
    c.choice.ensures c.in-Err.is c.cut.ensures.fault

pub returns-in-Ok-frames_of-clause-cut : goal.returns-in-Ok-frames_of-clause-cut
returns-in-Ok-frames_of-clause-cut c =
    let m : Message = record { frame = head_of (value_of c.args.frame.now); head = c.in-Some.head; service = service_of c.in-Some.service.now } in
    cut_made (value_of c.args.frame.now) m c.args.size c.args.window c.choice.result c.deref.result.now c.cut.result c.in-Ok-cut.segments (map delivery c.in-Ok-cut.segments.items) (map value_of c.in-Ok-frames_of.frames.items) c.in-Some.ensures.message
    c.in-Some.ensures.kind (octets_are m.service c.in-Ok.octets.items c.deref.result.now c.deref.ensures.value c.in-Ok.ensures) c.choice.ensures c.in-Ok-cut.is c.cut.ensures.fault c.in-Ok-cut.ensures.ok c.in-Ok-frames_of.ensures
