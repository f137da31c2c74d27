use Rattle.std.specs.Prelude.{ℕ, Ok}
use Rattle.std.proofs.Common.{arith, take, ◌∙◌}
use Rattle.bac_text.proofs.TextLemmas.{appended, behind_word, first_put, in_room}
use Rattle.bac_text.proofs.services.properties.PropertyValueHasText.write_text.Goals as goal

pub returns-clause-text : goal.returns-clause-text
returns-clause-text c =
    in_room c.put_word.result _ c.put_word.new.room _ (omega arith)
    ∙ appended (take c.args.at c.args.out.now.items) _ _ _ _
    (appended (take c.args.at c.args.out.now.items) _ _ _ _
    (behind_word {E = ℕ} (Ok c.in_ok-end.end) (take c.args.at c.args.out.now.items) _ _ _ _ _ _
    (first_put c.args.at c.args.out.now.items _ _ _ _ c.make_room.ensures.front c.as_mut_slice-room.ensures.value c.put_property-end.ensures.text)
    (in_room c.put_word-end.result _ c.put_word-end.new.room _ (omega arith) ∙ c.put_word-end.ensures.text)
    c.in_ok-end.ensures.text)
    (first_put c.in_ok-end.end c.write_text.new.out.items _ _ _ _ c.make_room-2.ensures.front c.as_mut_slice-room-2.ensures.value c.put_optional-end.ensures.text))
    c.put_word.ensures.text
