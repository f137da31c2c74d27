use Rattle.std.proofs.Common.{sym, ◌∙◌}
use Rattle.std.proofs.lemmas.Result.{IfOk-weaker, IfErr-weaker}
use Rattle.bac_productions.specs.Laws.Least.{extends_more}
use Rattle.bac_fields.specs.Laws.Frames.{message_stops_body, apdu_stops_body}
use Rattle.bac_field_parts.specs.Laws.Making.{stop_then}
use Rattle.bac_fields.proofs.FrameMaking.{on_ok, is_forty, not_forty, message_after, apdu_after}
use Rattle.bac_fields.proofs.frames.make_after.Goals as goal

pub returns-then-message-clause-made : goal.returns-then-message-clause-made
returns-then-message-clause-made c =
    let written = on_ok c.append_front.result c.if-is_err.ensures.value c.append_front.ensures.written in
    IfOk-weaker c.make.result _ _ (λ taken. message_after c.args.front.now c.requires _ _ _ _ _ c.type_inv.out (rw c.if-message.true at written)) c.make.ensures.made

pub returns-then-message-clause-stopped : goal.returns-then-message-clause-stopped
returns-then-message-clause-stopped c =
    let led = sym c.lead.ensures ∙ is_forty c.lead.result (rw c.number.ensures at c.if-message.ensures) in
    IfErr-weaker c.make.result _ _ (λ fault. stop_then fault _ _ (λ p. message_stops_body c.args.octets.now c.args.fields.now p led)) c.make.ensures.stopped

pub returns-else-message-clause-made : goal.returns-else-message-clause-made
returns-else-message-clause-made c =
    let written = on_ok c.append_front.result c.if-is_err.ensures.value c.append_front.ensures.written in
    IfOk-weaker c.make-else-message.result _ _ (λ taken. apdu_after c.args.front.now c.requires _ _ _ _ _ c.type_inv.out (rw c.if-message.false at written)) c.make-else-message.ensures.made

pub returns-else-message-clause-stopped : goal.returns-else-message-clause-stopped
returns-else-message-clause-stopped c =
    let other = not_forty c.lead.result (rw c.number.ensures at c.if-message.ensures) in
    IfErr-weaker c.make-else-message.result _ _ (λ fault. stop_then fault _ _ (λ p. apdu_stops_body c.args.octets.now c.args.fields.now p (λ led. other (c.lead.ensures ∙ led)))) c.make-else-message.ensures.stopped

pub returns-then-message-clause-kept : goal.returns-then-message-clause-kept
returns-then-message-clause-kept c = extends_more _ _ _ c.append_front.ensures.kept c.make.ensures.kept

pub returns-else-message-clause-kept : goal.returns-else-message-clause-kept
returns-else-message-clause-kept c = extends_more _ _ _ c.append_front.ensures.kept c.make-else-message.ensures.kept
