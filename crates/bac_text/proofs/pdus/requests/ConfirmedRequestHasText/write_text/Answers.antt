use Rattle.std.proofs.Common.{arith, take, sym, ◌∙◌}
use Rattle.bac_text.proofs.TextLemmas.{behind_word, first_put, in_room}
use Rattle.bac_text.proofs.pdus.requests.ConfirmedRequestHasText.write_text.Goals as goal

pub returns-clause-text : goal.returns-clause-text
returns-clause-text c =
    rw (sym c.head.ensures, sym c.service.ensures.service)
    (behind_word c.write_text.result (take c.args.at c.args.out.now.items) _ _ _ _ _ _
    (first_put c.args.at c.args.out.now.items _ _ _ _ c.make_room.ensures.front c.as_mut_slice-room.ensures.value c.put_request_head-end.ensures.text)
    (in_room c.put_word-end.result _ c.put_word-end.new.room _ (omega arith) ∙ c.put_word-end.ensures.text)
    c.write_text.ensures.text)
