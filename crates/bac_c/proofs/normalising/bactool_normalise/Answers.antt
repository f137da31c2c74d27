use Rattle.bac_c.proofs.normalising.bactool_normalise.Goals as goal

pub returns-in-Err-clause-refused : goal.returns-in-Err-clause-refused
returns-in-Err-clause-refused c = λ told.
    let e = c.in-Err.ensures in
    let memory = c.refuse.ensures.refused told in
    (c.in-Err.refusal, record { refused = e.refused memory; reasoned = e.reasons; memory = memory }, c.refuse.ensures.told)
