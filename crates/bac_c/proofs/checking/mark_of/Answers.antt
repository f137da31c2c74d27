use Rattle.std.proofs.Common.{inl}
use Rattle.std.proofs.lemmas.Result.{err_from_is_err_and}
use Rattle.bac_c.proofs.OutcomeLemmas.{flawed}
use Rattle.bac_c.proofs.checking.mark_of.Goals as goal

pub returns-in_err-mark-clause-refused : goal.returns-in_err-mark-clause-refused
returns-in_err-mark-clause-refused c =
    let p = err_from_is_err_and c.from_residual.result c.from_residual.ensures.1 in
    let e = c.in_err-mark.ensures in
    rw (p.1, p.2) (inl (record { refused = e.refused; reasoned = e.reasons; memory = e.memory }))

pub returns-in-Some-clause-refused : goal.returns-in-Some-clause-refused
returns-in-Some-clause-refused c =
    let f = c.in_ok-mark.ensures.found in
    flawed c.args.strict c.args.octets.now c.at.result f.value c.in_ok-mark.mark c.in-Some.place c.if-strict.true f.spelled f.marked c.in-Some.is c.at.ensures
