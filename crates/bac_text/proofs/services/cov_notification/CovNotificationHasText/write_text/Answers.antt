use Rattle.std.proofs.Common.{arith, take, ◌∙◌}
use Rattle.bac_text.proofs.TextLemmas.{appended, behind_word, first_put, in_room, extends_last}
use Rattle.bac_text.proofs.services.cov_notification.CovNotificationHasText.write_text.Goals as goal

pub returns-clause-text : goal.returns-clause-text
returns-clause-text c =
    behind_word c.write_text.result (take c.args.at c.args.out.now.items) _ _ _ _ _ _
    (appended (take c.args.at c.args.out.now.items) _ _ _ _ (appended (take c.args.at c.args.out.now.items) _ _ _ _ (appended (take c.args.at c.args.out.now.items) _ _ _ _ (appended (take c.args.at c.args.out.now.items) _ _ _ _ c.in_ok-end.ensures.text
    (first_put c.in_ok-end.end c.write_name.new.out.items _ _ _ _ c.make_room.ensures.front c.as_mut_slice-room.ensures.value c.put_field-end.ensures.text)) c.put_field-end-2.ensures.text) c.put_field-end-3.ensures.text) c.put_field-end-4.ensures.text)
    (in_room c.put_word-end.result _ c.put_word-end.new.room _ (omega arith) ∙ c.put_word-end.ensures.text)
    c.write_text.ensures.text

pub returns-clause-err : goal.returns-clause-err
returns-clause-err c =
    extends_last c.write_text.result (take c.args.at c.args.out.now.items) _ c.write_text.new.out.items (
      _,
      in_room c.put_word-end.result _ c.put_word-end.new.room _ (omega arith)
          ∙ appended (take c.args.at c.args.out.now.items) _ _ _ _ (appended (take c.args.at c.args.out.now.items) _ _ _ _ (appended (take c.args.at c.args.out.now.items) _ _ _ _ (appended (take c.args.at c.args.out.now.items) _ _ _ _ (appended (take c.args.at c.args.out.now.items) _ _ _ _ c.in_ok-end.ensures.text
          (first_put c.in_ok-end.end c.write_name.new.out.items _ _ _ _ c.make_room.ensures.front c.as_mut_slice-room.ensures.value c.put_field-end.ensures.text)) c.put_field-end-2.ensures.text) c.put_field-end-3.ensures.text) c.put_field-end-4.ensures.text) c.put_word-end.ensures.text,
    )
    c.write_text.ensures.err
