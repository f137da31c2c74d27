use Rattle.std.proofs.lemmas.Result.{err_from_is_err_and}
use Rattle.bac_npdu_parts.proofs.BodyLemmas.{message_checked, message_no_memory, apdu_checked}
use Rattle.bac_npdu.proofs.frame_checking.check_body.Goals as goal

pub returns-in_err-check_message : goal.returns-in_err-check_message
returns-in_err-check_message c =
    let p = err_from_is_err_and c.from_residual.result c.from_residual.ensures.1 in
    rw (p.1, p.2, c.if-is_message.true) (message_no_memory c.args.octets.now _ c.in_err-check_message.ensures)

pub returns-then-is_message : goal.returns-then-is_message
returns-then-is_message c = rw c.if-is_message.true (message_checked c.args.octets.now c.in_ok-check_message.ensures)

pub returns : goal.returns
returns c = rw c.if-is_message.false (apdu_checked c.args.octets.now c.check_apdu.result c.check_apdu.ensures)
