use Rattle.bac_npdu_parts.specs.Frames.{value_of}
use Rattle.bac_lines.proofs.ReadingLemmas.{frame_read, frame_only}
use Rattle.bac_lines.proofs.reading.frame_of_line.Goals as goal

pub returns-in-Ok-clause-read : goal.returns-in-Ok-clause-read
returns-in-Ok-clause-read c =
    frame_read c.args.line.now c.new-octets.result.items c.append_octets_of_line.new.out.items c.deref.result.now (value_of c.in-Ok.frame) c.frames_have_one_value.ensures c.new-octets.ensures.items c.in_ok-append_octets_of_line.ensures.read c.deref.ensures.value c.in-Ok.ensures.found

pub returns-in-Ok-clause-only : goal.returns-in-Ok-clause-only
returns-in-Ok-clause-only c =
    frame_only c.args.line.now c.new-octets.result.items c.append_octets_of_line.new.out.items c.deref.result.now (value_of c.in-Ok.frame) c.frames_have_one_value.ensures c.new-octets.ensures.items c.in_ok-append_octets_of_line.ensures.only c.deref.ensures.value c.in-Ok.ensures.found
