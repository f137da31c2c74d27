use Rattle.std.proofs.Common.{inl, inr}
use Rattle.bac_tag.specs.Laws.Spelling.{refused_either}
use Rattle.bac_productions.specs.Laws.Longest.{either_first}
use Rattle.bac_productions.specs.Laws.Refusal.{reach_first, reach_either, reach_taken, reasons_either, ends_either}
use Rattle.bac_productions.proofs.choice.ChoiceProduction.check.Goals as goal

pub returns-in-Ok-clause-found : goal.returns-in-Ok-clause-found
returns-in-Ok-clause-found g c =
    let found = c.in-Ok.ensures.found in
    record { value = inl found.value; longest = either_first g.A.Production.is_sound g.B.Production.is_sound g.met.A.Production.lawful g.met.B.Production.lawful c.requires found.longest; marked = found.marked }

pub returns-in-Ok-clause-reach : goal.returns-in-Ok-clause-reach
returns-in-Ok-clause-reach g c =
    reach_first g.A.Production.is_sound g.B.Production.is_sound g.met.A.Production.lawful g.met.B.Production.lawful c.requires c.in-Ok.ensures.found.longest c.in-Ok.ensures.reach (reach_taken c.in-Ok.ensures.found.longest c.in-Ok.ensures.reach)

pub returns-in-Ok-check-clause-reach : goal.returns-in-Ok-check-clause-reach
returns-in-Ok-check-clause-reach g c =
    let told = rw c.in-Err-Refused.field-0-is at c.in-Err-Refused.ensures in
    rw c.farther.ensures (reach_either _ _ c.args.octets.now c.in-Err-Refused.refusal c.in-Ok-check.front.reach (record { furthest = told.refused.furthest; short = told.refused.short }) c.in-Ok-check.ensures.reach)

pub returns-in-Err-Refused-check-clause-refused : goal.returns-in-Err-Refused-check-clause-refused
returns-in-Err-Refused-check-clause-refused g c =
    let told = rw c.in-Err-Refused.field-0-is at c.in-Err-Refused.ensures in
    let other = rw c.in-Err-Refused-check.field-0-is at c.in-Err-Refused-check.ensures in
    rw c.farther-in-Err-Refused-check.ensures (refused_either _ _ c.args.octets.now c.in-Err-Refused.refusal c.in-Err-Refused-check.refusal told.refused other.refused)

pub returns-in-Ok-check-clause-trailing : goal.returns-in-Ok-check-clause-trailing
returns-in-Ok-check-clause-trailing g c =
    let told = rw c.in-Err-Refused.field-0-is at c.in-Err-Refused.ensures in
    rw c.farther.ensures (ends_either c.in-Ok-check.front.taken c.in-Ok-check.front.reach c.in-Err-Refused.refusal c.in-Ok-check.ensures.trailing told.reasons)

pub returns-in-Err-Refused-check-clause-reasons : goal.returns-in-Err-Refused-check-clause-reasons
returns-in-Err-Refused-check-clause-reasons g c =
    let told = rw c.in-Err-Refused.field-0-is at c.in-Err-Refused.ensures in
    let other = rw c.in-Err-Refused-check.field-0-is at c.in-Err-Refused-check.ensures in
    rw c.farther-in-Err-Refused-check.ensures (reasons_either c.in-Err-Refused.refusal c.in-Err-Refused-check.refusal told.reasons other.reasons)

pub returns-in-Ok-check-clause-found : goal.returns-in-Ok-check-clause-found
returns-in-Ok-check-clause-found g c =
    let told = rw c.in-Err-Refused.field-0-is at c.in-Err-Refused.ensures in
    let found = c.in-Ok-check.ensures.found in
    record { value = inr found.value; longest = record { within = found.longest.within; spelled = found.longest.spelled; most = elim [ inl w ↦ λ d z e s. absurd (told.refused.none w d z e s) | inr w ↦ λ d z e s. found.longest.most w d z e s ] }; marked = found.marked }
