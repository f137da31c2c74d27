use Rattle.std.proofs.lemmas.Result.{err_from_is_err_and}
use Rattle.std.proofs.lemmas.List.{take_rest}
use Rattle.bac_productions.specs.Laws.Checked.{checked_both}
use Rattle.bac_productions.specs.Laws.Faults.{refused_also}
use Rattle.bac_productions.specs.Laws.Refusal.{reach_both, reach_taken, refused_behind, refused_before, ends_both, reasons_both}
use Rattle.bac_productions.proofs.pair.Tuple2Production.check.Goals as goal

pub returns-in_err-first-clause-refused : goal.returns-in_err-first-clause-refused
returns-in_err-first-clause-refused g c =
    let p = err_from_is_err_and c.from_residual.result c.from_residual.ensures.1 in
    rw (p.1, p.2) (refused_also c.in_err-first.field-0.0 (λ refusal h. refused_before g.A.Production.is_sound g.B.Production.is_sound _ g.met.B.Production.inhabited c.requires h) c.in_err-first.ensures.refused)

pub returns-in-Ok-clause-found : goal.returns-in-Ok-clause-found
returns-in-Ok-clause-found g c =
    checked_both g.A.Production.is_sound g.B.Production.is_sound g.met.A.Production.lawful g.met.B.Production.lawful c.requires c.args.octets.now c.in_ok-first.first.taken c.in-Ok.second.taken c.in_ok-first.first.mark c.in-Ok.second.mark c.joined_marks.result c.in_ok-first.ensures.found (rw take_rest at c.in-Ok.ensures.found)
    c.joined_marks.ensures

pub returns-in-Ok-clause-reach : goal.returns-in-Ok-clause-reach
returns-in-Ok-clause-reach g c =
    rw (c.farther.ensures, c.behind.ensures)
    (reach_both g.A.Production.is_sound g.B.Production.is_sound g.met.A.Production.lawful g.met.B.Production.lawful c.requires g.met.B.Production.inhabited c.in_ok-first.ensures.found.longest c.in_ok-first.first.reach c.in-Ok.second.reach c.in_ok-first.ensures.reach
    (rw take_rest at c.in-Ok.ensures.reach))

pub returns-in-Err-Refused-clause-refused : goal.returns-in-Err-Refused-clause-refused
returns-in-Err-Refused-clause-refused g c =
    let told = rw c.in-Err-Refused.field-0-is at c.in-Err-Refused.ensures in
    rw (c.farther-in-Err-Refused.ensures, c.behind-in-Err-Refused.ensures)
    (refused_behind g.A.Production.is_sound g.B.Production.is_sound g.met.A.Production.lawful g.met.B.Production.lawful c.requires g.met.B.Production.inhabited c.in_ok-first.ensures.found.longest c.in_ok-first.first.reach c.in-Err-Refused.refusal c.in_ok-first.ensures.reach
    (rw take_rest at told.refused))

pub returns-in-Ok-clause-trailing : goal.returns-in-Ok-clause-trailing
returns-in-Ok-clause-trailing g c =
    rw (c.farther.ensures, c.behind.ensures)
    (ends_both c.in_ok-first.first.taken c.in-Ok.second.taken c.in_ok-first.first.reach c.in-Ok.second.reach c.in_ok-first.ensures.trailing c.in-Ok.ensures.trailing (reach_taken c.in-Ok.ensures.found.longest c.in-Ok.ensures.reach))

pub returns-in-Err-Refused-clause-reasons : goal.returns-in-Err-Refused-clause-reasons
returns-in-Err-Refused-clause-reasons g c =
    let told = rw c.in-Err-Refused.field-0-is at c.in-Err-Refused.ensures in
    rw (c.farther-in-Err-Refused.ensures, c.behind-in-Err-Refused.ensures) (reasons_both c.in_ok-first.first.taken c.in_ok-first.first.reach c.in-Err-Refused.refusal c.in_ok-first.ensures.trailing told.reasons)
