-- How the logic stores an open value: as its events.
use Rattle.std.specs.Prelude.{◌≡◌, ℕ, List, ◌⊎◌, refl}
use Rattle.std.specs.Coded.{Coded, code_by, coded×, coded⊎, coded_ℕ, coded_list}
use Rattle.std.proofs.Common.{inl, inr}
use Rattle.bac_value.specs.declared.prim.PrimitiveValue.{PrimitiveValue}
use Rattle.bac_value.specs.contracts.prim.PrimitiveValue.{the_row}
use Rattle.bac_data.specs.OpenValue.{Elements}
use Rattle.bac_data.specs.Events.{Event, application, contextual, opening, closing, events, value_of_events}
use Rattle.bac_data.specs.Laws.Events.{value_of_events-events}

-- How the logic stores a primitive value.
abbrev pub prim_code : Coded PrimitiveValue
prim_code = the_row.coded

-- An event in a form that the logic can store: a primitive or a tag, and which of the two kinds of either it is.
abbrev event_to : Event → (PrimitiveValue ⊎ (ℕ × List ℕ)) ⊎ (ℕ ⊎ ℕ)
event_to (application prim) = inl (inl prim)
event_to (contextual number octets) = inl (inr (number, octets))
event_to (opening number) = inr (inl number)
event_to (closing number) = inr (inr number)

-- The event that was brought into such a form by event_to.
abbrev event_from : (PrimitiveValue ⊎ (ℕ × List ℕ)) ⊎ (ℕ ⊎ ℕ) → Event
event_from (inl (inl prim)) = application prim
event_from (inl (inr c)) = contextual c.0 c.1
event_from (inr (inl number)) = opening number
event_from (inr (inr number)) = closing number

-- An event is the same after event_to and then event_from.
pub event_from-to : (e : Event) → event_from (event_to e) ≡ e
event_from-to (application prim) = refl
event_from-to (contextual number octets) = refl
event_from-to (opening number) = refl
event_from-to (closing number) = refl

-- How the logic stores an event: as event_to makes it.
abbrev pub event_code : Coded Event
event_code =
    code_by ((PrimitiveValue ⊎ (ℕ × List ℕ)) ⊎ (ℕ ⊎ ℕ)) (coded⊎ (coded⊎ prim_code (coded× coded_ℕ (coded_list coded_ℕ))) (coded⊎ coded_ℕ coded_ℕ)) event_to event_from
    event_from-to

-- How the logic stores an open value: as its events.
abbrev pub elements_code : Coded Elements
elements_code = code_by (List Event) (coded_list event_code) events value_of_events value_of_events-events
