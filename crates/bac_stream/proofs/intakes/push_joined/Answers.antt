use Rattle.std.proofs.Common.{rules, ◌<◌, ◌∷◌, ◌++◌, [], length, sym, ap, subst, ◌∙◌, append-nil, append_assoc}
use Rattle.std.proofs.lemmas.Result.{err_from_is_err_and}
use Rattle.bac_stream.specs.Intakes.{IsItem}
use Rattle.bac_stream.proofs.FilledLemmas.{piece_front, behind_head}
use Rattle.bac_stream.proofs.IntakeLemmas.{takes_completed, fails_completed, room_for_held}
use Rattle.bac_stream.proofs.intakes.push_joined.Goals as goal

pub returns-in_err-push_item-clause-fault : goal.returns-in_err-push_item-clause-fault
returns-in_err-push_item-clause-fault c =
    let held = c.args.held.now.items in
    let some : 0 < length held = search (rules, c.is_empty.ensures, c.if-is_empty.false) in
    let room = room_for_held c.args.before held c.requires.before c.requires.most some in
    let done = c.in-Some.ensures.completed in
    let p = err_from_is_err_and c.from_residual-in_err-push_item.result c.from_residual-in_err-push_item.ensures.1 in
    rw (p.1, p.2, c.in_err-push_item.ensures.memory) (room, (done.0, c.in-Some.behind.now, done.1, done.3 ∙ ap (λ l. l ++ c.in-Some.behind.now) done.2))

pub returns-in_err-push_item-clause-err : goal.returns-in_err-push_item-clause-err
returns-in_err-push_item-clause-err c =
    let p = err_from_is_err_and c.from_residual-in_err-push_item.result c.from_residual-in_err-push_item.ensures.1 in
    rw p.1 ([], c.in_err-push_item.ensures.err ∙ sym (append-nil c.args.out.now.items))

pub returns-in_err-found-2-clause-fault : goal.returns-in_err-found-2-clause-fault
returns-in_err-found-2-clause-fault c =
    let held = c.args.held.now.items in
    let some : 0 < length held = search (rules, c.is_empty.ensures, c.if-is_empty.false) in
    let room = room_for_held c.args.before held c.requires.before c.requires.most some in
    let behind = c.in-Some.behind.now in
    let front = c.complete.ensures.front in
    let done = c.in-Some.ensures.completed in
    let pushed = c.in_ok-push_item.ensures.ok in
    let piece = piece_front held c.args.piece.now front.0 c.complete.new.held.items behind front.1 done.3 in
    let item = subst (λ l. IsItem c.args.mode l pushed.0) (behind_head done.0 c.deref.result.now (c.deref.ensures.value ∙ done.2)) pushed.1 in
    let p = err_from_is_err_and c.from_residual-in_err-found-2.result c.from_residual-in_err-found-2.ensures.1 in
    rw (p.1, p.2)
    (fails_completed c.args.mode c.args.before held c.args.piece.now front.0 behind done.0 pushed.0 _ room piece done.1 (sym front.1 ∙ done.2) item c.in_err-found-2.ensures.fault)

pub returns-in_err-found-2-clause-err : goal.returns-in_err-found-2-clause-err
returns-in_err-found-2-clause-err c =
    let out = c.args.out.now.items in
    let pushed = c.in_ok-push_item.ensures.ok in
    let more = c.in_err-found-2.ensures.err in
    let p = err_from_is_err_and c.from_residual-in_err-found-2.result c.from_residual-in_err-found-2.ensures.1 in
    rw p.1 (pushed.0 ∷ more.0, more.1 ∙ ap (λ l. l ++ more.0) pushed.2 ∙ append_assoc out (pushed.0 ∷ []) more.0)

pub returns-clause-ok : goal.returns-clause-ok
returns-clause-ok c =
    let held = c.args.held.now.items in
    let out = c.args.out.now.items in
    let some : 0 < length held = search (rules, c.is_empty.ensures, c.if-is_empty.false) in
    let room = room_for_held c.args.before held c.requires.before c.requires.most some in
    let behind = c.in-Some.behind.now in
    let front = c.complete.ensures.front in
    let done = c.in-Some.ensures.completed in
    let pushed = c.in_ok-push_item.ensures.ok in
    let found = c.in_ok-found-2.ensures.ok in
    let piece = piece_front held c.args.piece.now front.0 c.complete.new.held.items behind front.1 done.3 in
    let item = subst (λ l. IsItem c.args.mode l pushed.0) (behind_head done.0 c.deref.result.now (c.deref.ensures.value ∙ done.2)) pushed.1 in (
      pushed.0 ∷ found.0,
      found.1 ∙ ap (λ l. l ++ found.0) pushed.2 ∙ append_assoc out (pushed.0 ∷ []) found.0,
      found.2,
      takes_completed c.args.mode c.args.before held c.args.piece.now front.0 behind done.0 pushed.0 found.0 _ room piece done.1 (sym front.1 ∙ done.2) item found.3,
    )
