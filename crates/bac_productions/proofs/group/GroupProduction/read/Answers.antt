use Rattle.std.proofs.lemmas.Result.{err_from_is_err_and}
use Rattle.bac_productions.specs.Laws.Group.{group_sound, group_longest, group_reach, group_refused}
use Rattle.bac_productions.specs.Laws.Faults.{refused_also}
use Rattle.bac_productions.proofs.group.GroupProduction.read.Goals as goal

pub read-requires : goal.read-requires
read-requires g c = group_sound g.P.Production.openers g.P.Production.continuers g.P.Production.may_be_empty g.row.N g.P.Production.is_sound c.requires

pub returns-clause-found : goal.returns-clause-found
returns-clause-found g c = rw (c.with.ensures, c.split-part.ensures) (group_longest g.row.N c.in_ok-front.ensures.found)

pub returns-clause-mark : goal.returns-clause-mark
returns-clause-mark g c = rw (c.with.ensures, c.split-part.ensures) c.in_ok-front.ensures.mark

pub returns-clause-reach : goal.returns-clause-reach
returns-clause-reach g c = rw (c.with.ensures, c.split-part.ensures) (group_reach g.row.N c.in_ok-front.ensures.reach)

pub returns-in_err-front-clause-refused : goal.returns-in_err-front-clause-refused
returns-in_err-front-clause-refused g c =
    let p = err_from_is_err_and c.from_residual.result c.from_residual.ensures.1 in
    rw (p.1, p.2) (refused_also c.in_err-front.field-0.0 (λ refusal h. group_refused g.row.N h) c.in_err-front.ensures.refused)
