use Rattle.std.proofs.Common.{[], ap, sym, subst, ◌∙◌}
use Rattle.bac_tag.specs.declared.refusals.Refusal.{Refusal}
use Rattle.bac_tag.specs.Refusals.{farther_of, behind}
use Rattle.bac_productions.specs.Productions.{Items, IsReach}
use Rattle.bac_productions.specs.ReadFaults.{EndsOrGoesOn}
use Rattle.std.proofs.lemmas.List.{take_rest}
use Rattle.bac_productions.specs.Laws.Production.{record_lawful}
use Rattle.bac_productions.specs.Laws.Checked.{checked_items, checked_next, checked_shrink}
use Rattle.bac_productions.specs.Laws.List.{items_start, items_end, items_ends}
use Rattle.bac_productions.proofs.list.VecProduction.check.Goals as goal

pub loop-item-init : goal.loop-item-init
loop-item-init g c = record { items = []; has = items_start g.R.Record.spells c.args.octets.now c.complete_at-reach.result c.complete_at-reach.ensures.place c.complete_at-reach.ensures.short c.complete_at-reach.ensures.reason }

pub loop-item-smaller : goal.loop-item-smaller
loop-item-smaller g c = checked_shrink g.R.Parts.Production.is_sound (λ sound. record_lawful g.met.R.Record.of_parts (g.met.R.Parts.Production.lawful sound)) c.requires c.loop-item.invariant (rw take_rest at c.in-Ok.ensures.found)

pub loop-item-preserved : goal.loop-item-preserved
loop-item-preserved g c =
    checked_next g.R.Parts.Production.is_sound (λ sound. record_lawful g.met.R.Record.of_parts (g.met.R.Parts.Production.lawful sound)) c.requires c.loop-item.invariant
    c.joined_marks-mark.result c.farther-reach.result (rw take_rest at c.in-Ok.ensures.found) (rw take_rest at c.in-Ok.ensures.reach) c.in-Ok.ensures.trailing c.joined_marks-mark.ensures (rw c.behind.ensures at c.farther-reach.ensures)

pub returns-in-Err-Refused-clause-found : goal.returns-in-Err-Refused-clause-found
returns-in-Err-Refused-clause-found g c =
    let told = rw c.in-Err-Refused.field-0-is at c.in-Err-Refused.ensures in
    checked_items g.R.Parts.Production.is_sound (λ sound. record_lawful g.met.R.Record.of_parts (g.met.R.Parts.Production.lawful sound)) c.requires c.loop-item.invariant (rw take_rest at told.refused)

pub returns-in-Err-Refused-clause-reach : goal.returns-in-Err-Refused-clause-reach
returns-in-Err-Refused-clause-reach g c =
    let told = rw c.in-Err-Refused.field-0-is at c.in-Err-Refused.ensures in
    let reach = items_end g.R.Parts.Production.is_sound (λ sound. record_lawful g.met.R.Record.of_parts (g.met.R.Parts.Production.lawful sound)) c.requires c.loop-item.invariant.has c.in-Err-Refused.refusal (rw take_rest at told.refused) in
    subst (IsReach (Items g.R.Record.spells) c.args.octets.now) (sym (c.farther.ensures ∙ ap (λ (r : Refusal). farther_of r c.loop-item.reach) c.behind-in-Err-Refused.ensures ∙ ap (λ (r : Refusal). farther_of (behind c.loop-item.taken r) c.loop-item.reach) c.in-Err-Refused.refusal-is)) reach

pub returns-in-Err-Refused-clause-trailing : goal.returns-in-Err-Refused-clause-trailing
returns-in-Err-Refused-clause-trailing g c =
    let told = rw c.in-Err-Refused.field-0-is at c.in-Err-Refused.ensures in
    let ends = items_ends g.R.Parts.Production.is_sound (λ sound. record_lawful g.met.R.Record.of_parts (g.met.R.Parts.Production.lawful sound)) c.requires c.loop-item.invariant.has c.in-Err-Refused.refusal told.reasons in
    subst (EndsOrGoesOn c.loop-item.taken) (sym (c.farther.ensures ∙ ap (λ (r : Refusal). farther_of r c.loop-item.reach) c.behind-in-Err-Refused.ensures ∙ ap (λ (r : Refusal). farther_of (behind c.loop-item.taken r) c.loop-item.reach) c.in-Err-Refused.refusal-is)) ends
