use Rattle.std.specs.Prelude.{None, refl}
use Rattle.std.proofs.lemmas.Result.{err_from_is_err_and}
use Rattle.bac_npdu_parts.specs.Frames.{message}
use Rattle.bac_npdu_parts.specs.Messages.{message_value}
use Rattle.bac_npdu_parts.proofs.BodyLemmas.{message_refused, message_found, apdu_visited}
use Rattle.bac_npdu.proofs.frame_decoding.visit_behind.Goals as goal

pub returns-in_err-message : goal.returns-in_err-message
returns-in_err-message g c =
    let p = err_from_is_err_and c.from_residual.result c.from_residual.ensures.1 in
    rw (p.1, p.2, c.if-is_message.true) (message_refused c.args.octets.now _ c.in_err-message.ensures, refl)

pub returns-in_ok-message : goal.returns-in_ok-message
returns-in_ok-message g c = rw c.if-is_message.true (record {
  body = message (message_value c.in_ok-message.message);
  mark = None;
  found = message_found c.in_ok-message.message c.args.octets.now c.in_ok-message.ensures;
  made_of = c.visit_body.ensures;
})

pub returns-else-is_message : goal.returns-else-is_message
returns-else-is_message g c =
    let e = c.visit_apdu.ensures in
    rw c.if-is_message.false (apdu_visited _ _ c.args.octets.now _ _ c.visit_apdu.result (λ a mark made p. p) e.made e.refused e.memory e.types e.windows e.reasons e.unchanged)
