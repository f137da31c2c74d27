use Rattle.std.proofs.lemmas.Result.{IfOk-weaker, IfErr-weaker}
use Rattle.bac_productions.specs.Laws.Checked.{checked_group}
use Rattle.bac_productions.specs.Laws.Group.{group_sound, group_reach, group_refused}
use Rattle.bac_productions.specs.Laws.Faults.{refused_also}
use Rattle.bac_productions.proofs.group.GroupProduction.check.Goals as goal

pub check-requires : goal.check-requires
check-requires g c = group_sound g.P.Production.openers g.P.Production.continuers g.P.Production.may_be_empty g.row.N g.P.Production.is_sound c.requires

pub returns-clause-found : goal.returns-clause-found
returns-clause-found g c = IfOk-weaker c.check.result _ _ (λ front h. checked_group g.row.N h) c.check.ensures.found

pub returns-clause-reach : goal.returns-clause-reach
returns-clause-reach g c = IfOk-weaker c.check.result _ _ (λ front h. group_reach g.row.N h) c.check.ensures.reach

pub returns-clause-refused : goal.returns-clause-refused
returns-clause-refused g c = IfErr-weaker c.check.result _ _ (λ fault h. refused_also fault (λ refusal k. group_refused g.row.N k) h) c.check.ensures.refused
