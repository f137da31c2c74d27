use Rattle.std.proofs.Common.{refl}
use Rattle.bac_npdu_parts.specs.Frames.{value_of}
use Rattle.bac_segment.specs.Deliveries.{delivery}
use Rattle.bac_message.specs.Messages.{heads_of}
use Rattle.bac_message.specs.Gathered.{table_in}
use Rattle.bac_message.proofs.PieceLemmas.{segment_in}
use Rattle.bac_message.proofs.GatherLemmas.{took_piece}
use Rattle.bac_message.proofs.record_gathering.gather_frame.Goals as goal

pub piece_in-requires : goal.piece_in-requires
piece_in-requires c = (segment_in (value_of c.args.frame.now) c.args.octets.now (delivery c.in-Some.segment.now) c.requires.spelled c.in-Some.ensures).0

pub returns-in-Ok-clause-ok : goal.returns-in-Ok-clause-ok
returns-in-Ok-clause-ok c =
    took_piece (heads_of (value_of c.args.first.now)) (table_in c.args.gathering.now) (table_in c.take.new.self) (value_of c.args.frame.now) (delivery c.in-Some.segment.now) c.in-Some.ensures (c.if-not-have_same_heads.ensures.0 refl) c.in-Ok.ensures.taken
