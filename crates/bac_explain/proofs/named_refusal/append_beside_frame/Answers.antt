use Rattle.std.proofs.Common.{◌≡◌, ◌++◌, ap, take, ◌∙◌}
use Rattle.bac_npdu_parts.specs.Frames.{value_of}
use Rattle.bac_fields.specs.FrameFields.{placed_fields}
use Rattle.bac_explain.proofs.CompletionLemmas.{beside_frame}
use Rattle.bac_explain.proofs.named_refusal.append_beside_frame.Goals as goal

pub returns-clause-ok : goal.returns-clause-ok
returns-clause-ok c =
    let f = value_of c.args.frame.now in
    let least = c.in_ok-append_fields.ensures.octets in
    let hint = c.in_ok-append_hint.ensures.text in
    let canonical : c.append_fields.new.octets.items ≡ least.more = least.new_is ∙ ap (λ l. l ++ least.more) c.new-canonical.ensures.items in
    let fields : c.append_fields.new.fields.items ≡ placed_fields f = c.in_ok-append_fields.ensures.fields ∙ ap (λ l. l ++ placed_fields f) c.new-fields.ensures.items in
    let hinted : c.append_hint.new.out.items ≡ hint.0 = hint.1 ∙ ap (λ l. l ++ hint.0) c.new-hint.ensures.items in
    beside_frame c.append_beside_each.result c.args.octets.now c.args.refusal c.args.whole.now f c.args.mark c.is_typed_body-typed.result least.more hint.0 c.in_ok-pieces.pieces.items c.in_ok-wholes.wholes.items c.in_ok-others.others.items c.same_pieces-count.result c.deref.result.now c.deref-2.result.now
    c.deref-3.result.now c.deref-4.result.now c.deref-5.result.now c.deref-7.result.now c.deref-8.result.now c.deref-9.result.now c.deref-10.result.now c.first_pieces-beside.result.now c.args.out.now.items c.append_beside_each.new.out.items (c.deref.ensures.value ∙ canonical) c.deref-2.ensures.value
    c.deref-3.ensures.value c.deref-4.ensures.value (c.deref-5.ensures.value ∙ fields) c.deref-7.ensures.value (c.deref-8.ensures.value ∙ canonical) (c.deref-9.ensures.value ∙ fields) (c.deref-10.ensures.value ∙ hinted) (c.first_pieces-beside.ensures ∙ ap (take c.same_pieces-count.result) c.deref-6.ensures.value)
    c.requires.begins c.requires.spelled c.is_typed_body-typed.ensures least.is_least c.in_ok-pieces.ensures c.in_ok-wholes.ensures c.in_ok-others.ensures c.same_pieces-count.ensures hint.2 c.append_beside_each.ensures.ok
