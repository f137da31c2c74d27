use Rattle.std.proofs.Common.{◌∙◌, sym, ap}
use Rattle.std.specs.Option.{option_copied}
use Rattle.bac_segment.specs.Deliveries.{delivery}
use Rattle.bac_message.proofs.JoiningLemmas.{no_frames, no_segment, content_fault}
use Rattle.bac_message.proofs.joining.join_frames.Goals as goal

pub returns-in_default-clause-fault : goal.returns-in_default-clause-fault
returns-in_default-clause-fault c = no_frames c.args.frames.now (sym c.first.ensures.value ∙ ap option_copied c.in_default.is)

pub returns-in_default-segment_of-clause-fault : goal.returns-in_default-segment_of-clause-fault
returns-in_default-segment_of-clause-fault c = no_segment c.args.frames.now c.in-Some.first.now (sym c.first.ensures.value ∙ ap option_copied c.in-Some.is) c.in_default-segment_of.ensures

pub returns-clause-fault : goal.returns-clause-fault
returns-clause-fault c =
    content_fault c.args.frames.now c.in-Some.first.now (delivery c.in-Some-segment_of.segment.now) c.in_ok-reassembly.reassembly.table c.in-Some-octets.octets.now c.whole_frame.result (sym c.first.ensures.value ∙ ap option_copied c.in-Some.is) c.in-Some-segment_of.ensures
    c.in_ok-reassembly.ensures.ok c.in_ok-reassembly.ensures.held (sym c.octets.ensures ∙ ap option_copied c.in-Some-octets.is) c.whole_frame.ensures.err
