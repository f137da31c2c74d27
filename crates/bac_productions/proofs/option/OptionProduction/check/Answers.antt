use Rattle.bac_productions.specs.Laws.Checked.{checked_present}
use Rattle.bac_productions.specs.Laws.Refusal.{reach_absent, reach_present}
use Rattle.bac_productions.proofs.option.OptionProduction.check.Goals as goal

pub returns-in-Ok-clause-reach : goal.returns-in-Ok-clause-reach
returns-in-Ok-clause-reach g c = reach_present _ _ _ c.in-Ok.ensures.reach

pub returns-in-Err-Refused-clause-reach : goal.returns-in-Err-Refused-clause-reach
returns-in-Err-Refused-clause-reach g c = let told = rw c.in-Err-Refused.field-0-is at c.in-Err-Refused.ensures in reach_absent _ _ _ told.refused

pub returns-in-Ok-clause-found : goal.returns-in-Ok-clause-found
returns-in-Ok-clause-found g c = checked_present c.in-Ok.ensures.found
