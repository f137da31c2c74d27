use Rattle.bac_c.proofs.knowing.accepted.Goals as goal

pub returns-in-Ok-clause-spelled : goal.returns-in-Ok-clause-spelled
returns-in-Ok-clause-spelled c = let f = c.in-Ok.ensures.found in (f.value, f.spelled)

pub returns-in-Err-clause-refused : goal.returns-in-Err-clause-refused
returns-in-Err-clause-refused c = let e = c.in-Err.ensures in record { refused = e.refused; reasoned = e.reasons; memory = e.memory }

pub returns-in-Err-clause-within : goal.returns-in-Err-clause-within
returns-in-Err-clause-within c = c.in-Err.ensures.refused.furthest.within
