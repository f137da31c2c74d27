use Rattle.std.proofs.lemmas.Result.{err_from_is_err_and}
use Rattle.bac_apdu.specs.Apdus.{value_of as apdu_value}
use Rattle.bac_npdu_parts.proofs.BodyLemmas.{message_refused, message_found, apdu_found, apdu_refused}
use Rattle.bac_npdu.proofs.frame_decoding.decode_body.Goals as goal

pub returns-in_err-message : goal.returns-in_err-message
returns-in_err-message c =
    let p = err_from_is_err_and c.from_residual.result c.from_residual.ensures.1 in
    rw (p.1, p.2, c.if-is_message.true) (message_refused c.args.octets.now _ c.in_err-message.ensures)

pub returns-then-is_message : goal.returns-then-is_message
returns-then-is_message c = rw c.if-is_message.true (message_found c.in_ok-message.message c.args.octets.now c.in_ok-message.ensures)

pub returns-in_err-apdu : goal.returns-in_err-apdu
returns-in_err-apdu c =
    let p = err_from_is_err_and c.from_residual-in_err-apdu.result c.from_residual-in_err-apdu.ensures.1 in
    let e = c.in_err-apdu.ensures in
    rw (p.1, p.2, c.if-is_message.false) (apdu_refused c.args.octets.now _ e.refused e.memory e.types e.windows e.reasons)

pub returns : goal.returns
returns c = rw c.if-is_message.false (apdu_found (apdu_value c.in_ok-apdu.apdu) c.args.octets.now c.in_ok-apdu.mark c.in_ok-apdu.ensures.found c.in_ok-apdu.ensures.mark)
