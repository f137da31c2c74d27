use Rattle.std.proofs.Common.{subst}
use Rattle.bac_tag.specs.Octets.{IsOctets}
use Rattle.bac_tag.specs.HeadOctets.{IsWindow}
use Rattle.bac_apdu.proofs.HeldLemmas.{held_request_segment, held_ack_segment}
use Rattle.bac_apdu.proofs.laws.held_segments_have_canonical_octets.Goals as goal

pub returns-in-Request : goal.returns-in-Request
returns-in-Request c =
    let part = c.args.segment.now in
    let window = subst IsWindow c.number.ensures.number c.number.ensures.range in
    let octets = subst IsOctets c.deref.ensures.value c.are_octets.ensures in
    rw c.in-Request.is (held_request_segment c.in-Request.head part.seq part.window part.more part.choice part.piece.items c.is_request_head.ensures c.is_octet.ensures window c.is_octet-2.ensures octets)

pub returns-in-Ack : goal.returns-in-Ack
returns-in-Ack c =
    let part = c.args.segment.now in
    let window = subst IsWindow c.number.ensures.number c.number.ensures.range in
    let octets = subst IsOctets c.deref.ensures.value c.are_octets.ensures in
    rw c.in-Ack.is (held_ack_segment c.in-Ack.invoke part.seq part.window part.more part.choice part.piece.items c.is_octet-in-Ack.ensures c.is_octet.ensures window c.is_octet-2.ensures octets)
