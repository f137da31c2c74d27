use Rattle.std.proofs.Common.{ap}
use Rattle.std.proofs.lemmas.Result.{on_ok_weaker}
use Rattle.bac_apdu.specs.Apdus.{value_of as apdu_value}
use Rattle.bac_npdu_parts.specs.FrameHeads.{frame_with}
use Rattle.bac_npdu_parts.specs.Messages.{message_value}
use Rattle.bac_npdu_parts.specs.Frames.{apdu, message, body_value}
use Rattle.bac_npdu_parts.proofs.FrameLemmas.{appends_body, appends_message, extends_appended, on_ok_two}
use Rattle.bac_npdu_parts.proofs.frame_encoding.append_parts.Goals as goal

pub returns-in-Apdu-clause-written : goal.returns-in-Apdu-clause-written
returns-in-Apdu-clause-written c =
    let head = c.in_ok-append_head.ensures in
    on_ok_weaker c.append_apdu.result (appends_body (frame_with c.args.head.now (body_value c.args.body.now)) c.args.out.now.items c.append_head.new.out.items c.append_apdu.new.out.items c.type_inv.out head.addressed head.range head.written (apdu (apdu_value c.in-Apdu.apdu)) (ap body_value c.in-Apdu.is)) c.append_apdu.ensures.written

pub returns-in-Net-clause-written : goal.returns-in-Net-clause-written
returns-in-Net-clause-written c =
    let head = c.in_ok-append_head.ensures in
    let value = message_value c.in-Net.message in
    let body = appends_body (frame_with c.args.head.now (body_value c.args.body.now)) c.args.out.now.items c.append_head.new.out.items c.append_message.new.out.items c.type_inv.out head.addressed head.range head.written (message value) (ap body_value c.in-Net.is) in
    on_ok_two c.append_message.result (λ e h. body (appends_message value c.type_inv.out h e)) c.append_message.ensures.written c.append_message.ensures.formed

pub returns-in-Apdu-clause-kept : goal.returns-in-Apdu-clause-kept
returns-in-Apdu-clause-kept c = extends_appended _ c.append_apdu.result c.args.out.now.items c.append_head.new.out.items c.append_apdu.new.out.items c.in_ok-append_head.ensures.kept c.append_apdu.ensures.written c.append_apdu.ensures.unchanged
