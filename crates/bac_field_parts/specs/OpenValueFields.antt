-- The fields of an open value (clause 20.2): one for each event of a walk over it.
use Rattle.std.specs.Prelude.{ℕ, List, [], ◌∷◌, ◌++◌, map}
use Rattle.bac_data.specs.OpenValue.{Elements}
use Rattle.bac_data.specs.Events.{Event, application, contextual, opening, closing, events}
use Rattle.bac_field_parts.specs.declared.names.Name.TheVariants as name
use Rattle.bac_field_parts.specs.Fields.{FieldValue, Step, next, under_tag, opening_field, closing_field}
use Rattle.bac_field_parts.specs.PrimitiveFields.{primitive_field}

-- The field of an event of a walk.
abbrev pub event_field : Event → FieldValue
event_field (application prim) = primitive_field prim
event_field (contextual number octets) = under_tag name.ContextPrimitive number number octets
event_field (opening number) = opening_field name.Group number number
event_field (closing number) = closing_field name.GroupEnd number number

-- The step of an event of a walk.
abbrev pub event_step : Event → Step
event_step event = next (event_field event)

-- The steps of all events of a walk over an open value, between the tags with this number.
abbrev pub open_steps : ℕ → Elements → List Step
open_steps tag value = next (opening_field name.Value tag 0) ∷ (map event_step (events value) ++ next (closing_field name.ValueEnd tag 0) ∷ [])
