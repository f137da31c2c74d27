use Rattle.std.proofs.Common.{arith, take, ◌∙◌}
use Rattle.bac_text.proofs.TextLemmas.{appended, first_put, in_room}
use Rattle.bac_text.proofs.pdus.answers.write_abort.Goals as goal

pub returns-clause-text : goal.returns-clause-text
returns-clause-text c =
    in_room c.put_field.result _ c.put_field.new.room _ (omega arith)
    ∙ appended (take c.args.at c.args.out.now.items) _ _ _ _ (appended (take c.args.at c.args.out.now.items) _ _ _ _ (first_put c.args.at c.args.out.now.items _ _ _ _ c.make_room.ensures.front c.as_mut_slice-room.ensures.value c.put_field-end.ensures.text) c.put_field-end-2.ensures.text) c.put_field.ensures.text
