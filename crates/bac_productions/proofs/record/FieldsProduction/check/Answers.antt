use Rattle.std.proofs.lemmas.Result.{IfOk-weaker, IfErr-weaker}
use Rattle.bac_productions.specs.Laws.Checked.{checked_record}
use Rattle.bac_productions.specs.Laws.Faults.{refused_also}
use Rattle.bac_productions.specs.Laws.Record.{record_refused, record_reach}
use Rattle.bac_productions.proofs.record.FieldsProduction.check.Goals as goal

pub returns-clause-found : goal.returns-clause-found
returns-clause-found g c = IfOk-weaker c.check.result _ _ (λ front h. checked_record g.met.R.Record.of_parts (g.met.R.Parts.Production.lawful c.requires) h) c.check.ensures.found

pub returns-clause-reach : goal.returns-clause-reach
returns-clause-reach g c = IfOk-weaker c.check.result _ _ (λ front h. record_reach g.met.R.Record.of_parts h) c.check.ensures.reach

pub returns-clause-refused : goal.returns-clause-refused
returns-clause-refused g c = IfErr-weaker c.check.result _ _ (λ fault h. refused_also fault (λ refusal k. record_refused g.met.R.Record.of_parts k) h) c.check.ensures.refused
