use Rattle.std.proofs.Common.{sym}
use Rattle.bac_npdu_parts.specs.Frames.{value_of}
use Rattle.bac_segment.specs.Deliveries.{delivery}
use Rattle.bac_message.proofs.PieceLemmas.{checked_end}
use Rattle.bac_message.proofs.record_octets.checked.Goals as goal

pub returns-in-Ok-None-clause-ok : goal.returns-in-Ok-None-clause-ok
returns-in-Ok-None-clause-ok c =
    checked_end (value_of c.args.frame.now) (delivery c.args.segment.now) c.args.out.items c.deref.result.now c.args.start c.kind_of_segment-kind.result c.in-Ok-None.field-0 c.requires.segment c.requires.heads c.kind_of_segment-kind.ensures c.deref.ensures.value c.in-Ok-None.ensures c.in-Ok-None.field-0-is
