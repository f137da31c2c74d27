use Rattle.std.proofs.Common.{arith, take, sym, ◌∙◌}
use Rattle.bac_text.proofs.TextLemmas.{appended, first_put, in_room, written_last}
use Rattle.bac_text.proofs.messages.tables.PortHasText.write_text.Goals as goal

pub returns-clause-text : goal.returns-clause-text
returns-clause-text c =
    rw (sym c.octets.ensures.octets)
    (written_last c.write_word.result (take c.args.at c.args.out.now.items) _ _ _ _
    (appended (take c.args.at c.args.out.now.items) _ _ _ _
    (in_room c.put_field-end-2.result _ c.put_field-end-2.new.room _ (omega arith)
    ∙ appended (take c.args.at c.args.out.now.items) _ _ _ _ (first_put c.args.at c.args.out.now.items _ _ _ _ c.make_room.ensures.front c.as_mut_slice-room.ensures.value c.put_field-end.ensures.text) c.put_field-end-2.ensures.text)
    c.in_ok-end.ensures.text)
    c.write_word.ensures.text)
