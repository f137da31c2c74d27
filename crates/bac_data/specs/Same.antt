-- Whether two open values are the same.
use Rattle.std.specs.Prelude.{ℕ, Bool, nat_eq, List, [], ◌∷◌, map}
use Rattle.std.specs.Ordering.{on}
use Rattle.std.specs.Cmp.Lexicographic.{pointwise}
use Rattle.bac_value.specs.PrimContents.{application_number, prim_written}
use Rattle.bac_data.specs.OpenValue.{Elements}
use Rattle.bac_data.specs.Events.{Event, application, contextual, opening, closing, events}

-- The key of an event: which of the four it is, its number, and the contents that are written of it. The number of an
-- application primitive is that of its type.
abbrev pub event_key : Event → List ℕ
event_key (application prim) = 0 ∷ application_number prim ∷ prim_written prim
event_key (contextual number octets) = 1 ∷ number ∷ octets
event_key (opening number) = 2 ∷ number ∷ []
event_key (closing number) = 3 ∷ number ∷ []

-- The keys of all events of a value, in order.
abbrev pub event_keys : Elements → List (List ℕ)
event_keys value = map event_key (events value)

-- Whether two open values have the same keys. bac_data::Any::eq returns this. Of the values that a program can hold, two
-- have the same keys exactly where they are the same value.
abbrev pub same_values : Elements → Elements → Bool
same_values = on event_keys (pointwise (pointwise nat_eq))
