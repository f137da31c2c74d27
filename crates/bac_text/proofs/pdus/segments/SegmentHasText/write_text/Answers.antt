use Rattle.std.proofs.Common.{arith, take, sym, ◌∙◌}
use Rattle.bac_text.proofs.TextLemmas.{appended, first_put, in_room, written_last}
use Rattle.bac_text.proofs.pdus.segments.SegmentHasText.write_text.Goals as goal

pub returns-clause-text : goal.returns-clause-text
returns-clause-text c =
    rw (sym c.number.ensures.number, sym c.deref.ensures.value)
    (written_last c.write_octets.result (take c.args.at c.args.out.now.items) _ _ _ _
    (in_room c.put_field-end-4.result _ c.put_field-end-4.new.room _ (omega arith)
    ∙ appended (take c.args.at c.args.out.now.items) _ _ _ _ (appended (take c.args.at c.args.out.now.items) _ _ _ _ (appended (take c.args.at c.args.out.now.items) _ _ _ _ (appended (take c.args.at c.args.out.now.items) _ _ _ _ (first_put c.args.at c.args.out.now.items _ _ _ _ c.make_room.ensures.front c.as_mut_slice-room.ensures.value c.put_text-end.ensures.text) c.put_field-end.ensures.text) c.put_field-end-2.ensures.text) c.put_field-end-3.ensures.text) c.put_field-end-4.ensures.text)
    c.write_octets.ensures.text)
