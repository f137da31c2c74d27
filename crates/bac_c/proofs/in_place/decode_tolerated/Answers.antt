use Rattle.std.proofs.Common.{◌≡◌, length, rules}
use Rattle.bac_npdu_parts.specs.FrameHeads.{frame_with}
use Rattle.bac_npdu_parts.specs.Frames.{body_value}
use Rattle.bac_c.proofs.FrameLemmas.{unfit_made}
use Rattle.bac_c.proofs.in_place.decode_tolerated.Goals as goal

pub returns-in_default-write_if_room : goal.returns-in_default-write_if_room
returns-in_default-write_if_room c = λ octets place.
    let count : c.len.result ≡ length c.in-Some.canonical.items = search (rules, c.len.ensures, c.in-Some.canonical.ok) in
    unfit_made octets c.args.room (frame_with c.args.head.now (body_value c.args.body.now)) place c.in-Some.canonical.items c.len.result c.args.fields.now c.write_if_room.new.fields
    c.in-Some.ensures count c.in_default-write_if_room.ensures.none
