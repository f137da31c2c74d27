use Rattle.std.proofs.Common.{subst, sym}
use Rattle.std.proofs.lemmas.Result.{err_from_is_err_and}
use Rattle.bac_tag.specs.declared.refusals.Why.{Why}
use Rattle.bac_stream.specs.Judging.{Refuses}
use Rattle.bac_stream.proofs.JudgingLemmas.{accepts_by, hopeless_refused, hopeless_none, marked_none, marked_refused, told_by_mark}
use Rattle.bac_stream.proofs.judging.accepted_mark.Goals as goal

pub returns-in_err-mark-clause-fault : goal.returns-in_err-mark-clause-fault
returns-in_err-mark-clause-fault c =
    let p = err_from_is_err_and c.from_residual.result c.from_residual.ensures.1 in
    let e = c.in_err-mark.ensures in
    rw (p.1, p.2) (hopeless_refused c.args.mode c.args.octets.now _ (e.refused, e.reasons, e.memory))

pub returns-in_err-mark-clause-refused : goal.returns-in_err-mark-clause-refused
returns-in_err-mark-clause-refused c =
    let p = err_from_is_err_and c.from_residual.result c.from_residual.ensures.1 in
    let e = c.in_err-mark.ensures in
    rw p.1 (hopeless_none c.args.mode c.args.octets.now _ (e.refused, e.reasons, e.memory))

pub returns-in-None-clause-accepted : goal.returns-in-None-clause-accepted
returns-in-None-clause-accepted c =
    let f = c.in_ok-mark.ensures.found in
    record { frame = f.value; accepted = accepts_by c.args.mode f.value c.args.octets.now c.in_ok-mark.mark f.spelled f.marked c.in-None.ensures.none; marked = f.marked }

pub returns-in-None-clause-canonical : goal.returns-in-None-clause-canonical
returns-in-None-clause-canonical c =
    let f = c.in_ok-mark.ensures.found in
    told_by_mark c.frames_have_one_value.ensures f.value c.args.octets.now c.in_ok-mark.mark f.spelled f.marked

pub returns-in-Some-clause-fault : goal.returns-in-Some-clause-fault
returns-in-Some-clause-fault c =
    let f = c.in_ok-mark.ensures.found in
    let flaw = c.in-Some.ensures.some in
    let place = c.in-Some.refusal.place in
    subst (λ (why : Why). Refuses c.args.mode c.args.octets.now (record { place = place; why = why })) (sym flaw.2)
    (marked_refused c.args.mode f.value c.args.octets.now c.in_ok-mark.mark place flaw.0 flaw.1 f.spelled f.marked)

pub returns-in-Some-clause-refused : goal.returns-in-Some-clause-refused
returns-in-Some-clause-refused c =
    let f = c.in_ok-mark.ensures.found in
    let flaw = c.in-Some.ensures.some in
    marked_none c.frames_have_one_value.ensures c.args.mode f.value c.args.octets.now c.in_ok-mark.mark c.in-Some.refusal.place flaw.0 flaw.1 f.spelled f.marked
