use Rattle.std.proofs.Common.{◌≡◌}
use Rattle.bac_npdu_parts.specs.FrameHeads.{address_read, destination_read}
use Rattle.bac_fields.specs.FrameFields.{control_steps, addresses_steps}
use Rattle.bac_field_parts.proofs.FieldLemmas.{writes_then, writes_none, writes_same}
use Rattle.bac_fields.proofs.frames.tell_frame.Goals as goal

pub returns-in_err-cursor : goal.returns-in_err-cursor
returns-in_err-cursor c =
    let control : control_steps c.number.result c.reply.result ≡ control_steps c.args.head.now.priority c.args.head.now.reply = cc in
    writes_none _ _ c.from_residual.ensures (writes_same control c.in_err-cursor.ensures)

pub returns-in_err-cursor-2 : goal.returns-in_err-cursor-2
returns-in_err-cursor-2 c =
    let control : control_steps c.number.result c.reply.result ≡ control_steps c.args.head.now.priority c.args.head.now.reply = cc in
    let addresses : addresses_steps (destination_read c.destination.result) (address_read c.source.result) ≡ addresses_steps c.args.head.now.destination c.args.head.now.source = cc in
    writes_then (writes_same control c.in_ok-cursor.ensures) (writes_none _ _ c.from_residual-in_err-cursor-2.ensures (writes_same addresses c.in_err-cursor-2.ensures))

pub returns : goal.returns
returns c =
    let control : control_steps c.number.result c.reply.result ≡ control_steps c.args.head.now.priority c.args.head.now.reply = cc in
    let addresses : addresses_steps (destination_read c.destination.result) (address_read c.source.result) ≡ addresses_steps c.args.head.now.destination c.args.head.now.source = cc in
    writes_then (writes_same control c.in_ok-cursor.ensures) (writes_then (writes_same addresses c.in_ok-cursor-2.ensures) c.tell.ensures)
