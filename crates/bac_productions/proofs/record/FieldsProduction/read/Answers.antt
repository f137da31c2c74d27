use Rattle.std.proofs.lemmas.Result.{err_from_is_err_and}
use Rattle.bac_productions.specs.Laws.Faults.{refused_also}
use Rattle.bac_productions.specs.Laws.Least.{mark_alike}
use Rattle.bac_productions.specs.Laws.Record.{record_refused, record_longest, record_reach}
use Rattle.bac_productions.proofs.record.FieldsProduction.read.Goals as goal

pub returns-in_err-front-clause-refused : goal.returns-in_err-front-clause-refused
returns-in_err-front-clause-refused g c =
    let p = err_from_is_err_and c.from_residual.result c.from_residual.ensures.1 in
    rw (p.1, p.2) (refused_also c.in_err-front.field-0.0 (λ refusal h. record_refused g.met.R.Record.of_parts h) c.in_err-front.ensures.refused)

pub returns-clause-mark : goal.returns-clause-mark
returns-clause-mark g c = rw c.with.ensures (mark_alike c.from_parts.ensures (rw c.split-parts.ensures c.in_ok-front.ensures.mark))

pub returns-clause-found : goal.returns-clause-found
returns-clause-found g c = rw c.with.ensures (record_longest g.met.R.Record.of_parts c.from_parts.ensures (rw c.split-parts.ensures c.in_ok-front.ensures.found))

pub returns-clause-reach : goal.returns-clause-reach
returns-clause-reach g c = rw c.with.ensures (record_reach g.met.R.Record.of_parts (rw c.split-parts.ensures c.in_ok-front.ensures.reach))

pub returns-clause-trailing : goal.returns-clause-trailing
returns-clause-trailing g c = rw (c.with.ensures, c.split-parts.ensures) c.in_ok-front.ensures.trailing
