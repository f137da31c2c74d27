use Rattle.std.specs.Prelude.{ℕ, ◌++◌}
use Rattle.std.proofs.Common.{ap, arith, take, ◌∙◌}
use Rattle.bac_text.specs.SegmentText.{segment_ack_text}
use Rattle.bac_text.proofs.TextLemmas.{appended, first_put, in_room}
use Rattle.bac_text.proofs.pdus.segments.write_segment_ack.Goals as goal

pub returns-clause-text : goal.returns-clause-text
returns-clause-text c =
    in_room c.put_field.result _ c.put_field.new.room _ (omega arith)
    ∙ appended (take c.args.at c.args.out.now.items) _ _ _ _ (appended (take c.args.at c.args.out.now.items) _ _ _ _ (appended (take c.args.at c.args.out.now.items) _ _ _ _ (appended (take c.args.at c.args.out.now.items) _ _ _ _ (first_put c.args.at c.args.out.now.items _ _ _ _ c.make_room.ensures.front c.as_mut_slice-room.ensures.value c.put_field-end.ensures.text) c.put_field-end-2.ensures.text) c.put_field-end-3.ensures.text) c.put_field-end-4.ensures.text) c.put_field.ensures.text
    ∙ ap (λ (window : ℕ). take c.args.at c.args.out.now.items ++ segment_ack_text c.args.invoke c.args.nak c.args.srv c.args.seq window) c.number.ensures.number
