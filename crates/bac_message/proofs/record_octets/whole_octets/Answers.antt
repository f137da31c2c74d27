use Rattle.std.proofs.Common.{◌∙◌}
use Rattle.bac_npdu_parts.specs.Frames.{value_of}
use Rattle.bac_segment.specs.Deliveries.{delivery}
use Rattle.bac_message.specs.Gathered.{table_in}
use Rattle.bac_message.specs.Messages.{head_of, heads_with}
use Rattle.bac_message.proofs.PieceLemmas.{opens_still}
use Rattle.bac_message.proofs.record_octets.whole_octets.Goals as goal

pub checked-requires-clause-heads : goal.checked-requires-clause-heads
checked-requires-clause-heads c =
    opens_still (heads_with (head_of (value_of c.args.frame.now)) (delivery c.args.segment.now)) c.in-Ok.out.items c.append_to.new.out.items (table_in c.args.gathering.now) c.len-start.result c.in-Ok-true.field-0 c.in-Ok.ensures (c.len-start.ensures ∙ c.in-Ok.out.ok.0) c.in-Ok-true.ensures c.in-Ok-true.field-0-test
