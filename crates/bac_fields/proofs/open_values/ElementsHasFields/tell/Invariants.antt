use Rattle.std.specs.Prelude.{◌≡◌, ◌++◌, List, map, Some}
use Rattle.bac_data.specs.Events.{Event, events}
use Rattle.bac_field_parts.specs.Fields.{Writes}
use Rattle.bac_field_parts.specs.OpenValueFields.{event_step}
use Rattle.bac_fields.proofs.open_values.ElementsHasFields.tell.Given as goal

-- the fields of some events are written, and the others are left
abbrev pub invariant-loop-event : goal.invariant-loop-event
invariant-loop-event l =
    (done : List Event) × (done ++ l.event-iterator ≡ events l.self.0.now) × Writes (map event_step done) l.fn.room l.fn.cursor l.room (Some l.cursor)
