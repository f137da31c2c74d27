use Rattle.std.proofs.Common.{refl}
use Rattle.bac_npdu_parts.specs.Frames.{value_of}
use Rattle.bac_segment.specs.Deliveries.{delivery}
use Rattle.bac_message.specs.Messages.{heads_of}
use Rattle.bac_message.proofs.JoiningLemmas.{took}
use Rattle.bac_message.proofs.joining.take_frame.Goals as goal

pub returns-in-Ok-clause-ok : goal.returns-in-Ok-clause-ok
returns-in-Ok-clause-ok c =
    took (heads_of (value_of c.args.first.now)) c.args.reassembly.now c.take.new.self (value_of c.args.frame.now) (delivery c.in-Some.segment.now) c.in-Ok.field-0 c.in-Some.ensures (c.if-not-have_same_heads.ensures.0 refl) c.in-Ok.ensures.step
