use Rattle.bac_tag.specs.Laws.Spelling.{refused_either}
use Rattle.bac_productions.specs.Laws.Longest.{either_first}
use Rattle.bac_productions.specs.Laws.Refusal.{reach_first, reach_either, reach_taken, reasons_either, ends_either}
use Rattle.bac_productions.proofs.choice.ChoiceProduction.read.Goals as goal

pub returns-in-Ok-clause-found : goal.returns-in-Ok-clause-found
returns-in-Ok-clause-found g c =
    rw (c.with.ensures, c.split-part.ensures) (either_first g.A.Production.is_sound g.B.Production.is_sound g.met.A.Production.lawful g.met.B.Production.lawful c.requires c.in-Ok.ensures.found)

pub returns-in-Ok-clause-reach : goal.returns-in-Ok-clause-reach
returns-in-Ok-clause-reach g c =
    rw (c.with.ensures, c.split-part.ensures) (reach_first g.A.Production.is_sound g.B.Production.is_sound g.met.A.Production.lawful g.met.B.Production.lawful c.requires c.in-Ok.ensures.found c.in-Ok.ensures.reach (reach_taken c.in-Ok.ensures.found c.in-Ok.ensures.reach))

pub returns-in-Ok-read-clause-reach : goal.returns-in-Ok-read-clause-reach
returns-in-Ok-read-clause-reach g c =
    let told = rw c.in-Err-Refused.field-0-is at c.in-Err-Refused.ensures in
    rw c.farther.ensures (reach_either _ _ c.args.octets.now c.in-Err-Refused.refusal c.in-Ok-read.front.reach (record { furthest = told.refused.furthest; short = told.refused.short }) c.in-Ok-read.ensures.reach)

pub returns-in-Err-Refused-read-clause-refused : goal.returns-in-Err-Refused-read-clause-refused
returns-in-Err-Refused-read-clause-refused g c =
    let told = rw c.in-Err-Refused.field-0-is at c.in-Err-Refused.ensures in
    let other = rw c.in-Err-Refused-read.field-0-is at c.in-Err-Refused-read.ensures in
    rw c.farther-in-Err-Refused-read.ensures (refused_either _ _ c.args.octets.now c.in-Err-Refused.refusal c.in-Err-Refused-read.refusal told.refused other.refused)

pub returns-in-Ok-read-clause-trailing : goal.returns-in-Ok-read-clause-trailing
returns-in-Ok-read-clause-trailing g c =
    let told = rw c.in-Err-Refused.field-0-is at c.in-Err-Refused.ensures in
    rw c.farther.ensures (ends_either c.in-Ok-read.front.taken c.in-Ok-read.front.reach c.in-Err-Refused.refusal c.in-Ok-read.ensures.trailing told.reasons)

pub returns-in-Err-Refused-read-clause-reasons : goal.returns-in-Err-Refused-read-clause-reasons
returns-in-Err-Refused-read-clause-reasons g c =
    let told = rw c.in-Err-Refused.field-0-is at c.in-Err-Refused.ensures in
    let other = rw c.in-Err-Refused-read.field-0-is at c.in-Err-Refused-read.ensures in
    rw c.farther-in-Err-Refused-read.ensures (reasons_either c.in-Err-Refused.refusal c.in-Err-Refused-read.refusal told.reasons other.reasons)

pub returns-in-Ok-clause-trailing : goal.returns-in-Ok-clause-trailing
returns-in-Ok-clause-trailing g c = rw (c.with.ensures, c.split-part.ensures) c.in-Ok.ensures.trailing

pub returns-in-Ok-clause-mark : goal.returns-in-Ok-clause-mark
returns-in-Ok-clause-mark g c = rw (c.with.ensures, c.split-part.ensures) c.in-Ok.ensures.mark
