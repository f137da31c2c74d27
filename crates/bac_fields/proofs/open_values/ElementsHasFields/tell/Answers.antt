use Rattle.std.proofs.Common.{[], ◌∙◌}
use Rattle.bac_field_parts.proofs.WalkLemmas.{writes_nothing, writes_event, writes_no_event, writes_events}
use Rattle.bac_fields.proofs.open_values.ElementsHasFields.tell.Goals as goal

pub loop-event-init : goal.loop-event-init
loop-event-init c = ([], c.into_iter-event-iterator.ensures.into_iter_gives ∙ c.events-event-items.ensures.events, writes_nothing c.args.room.now c.args.cursor)

pub loop-event-preserved : goal.loop-event-preserved
loop-event-preserved c =
    let kept = c.loop-event.invariant in
    writes_event kept.0 _ _ _ _ kept.1 c.in-Some.ensures.steps.0 kept.2 c.in_ok-cursor.ensures

pub returns-in_err-cursor : goal.returns-in_err-cursor
returns-in_err-cursor c =
    let kept = c.loop-event.invariant in
    writes_no_event kept.0 _ _ _ _ kept.1 c.in-Some.ensures.steps.0 c.from_residual.ensures kept.2 c.in_err-cursor.ensures

pub returns : goal.returns
returns c =
    let kept = c.loop-event.invariant in
    writes_events kept.0 _ _ kept.1 c.in-None.ensures.steps.0.0 kept.2
