use Rattle.bac_npdu_parts.specs.Frames.{value_of}
use Rattle.bac_npdu_parts.proofs.FrameLemmas.{on_ok_two}
use Rattle.bac_segment.specs.Deliveries.{delivery}
use Rattle.bac_message.proofs.PieceLemmas.{heads_written}
use Rattle.bac_message.proofs.record_octets.write_heads.Goals as goal

pub returns : goal.returns
returns c =
    let first = c.in_ok-append_head.ensures in
    let written = heads_written (value_of c.args.frame.now) (delivery c.args.segment.now) c.head.result c.args.out.now.items c.append_head.new.out.items c.append_apdu_head.new.out.items c.requires.segment c.head.ensures c.requires.empty first.written c.type_inv.out first.addressed first.range in
    on_ok_two c.append_apdu_head.result written c.append_apdu_head.ensures.written c.append_apdu_head.ensures.parts
