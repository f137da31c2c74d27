-- What each event of a walk over an open value adds to its text. The walk over an open value goes by these
-- definitions.
use Rattle.std.specs.Prelude.{ℕ, Bool, true, false, List, [], ◌∷◌, ◌++◌, if◌then◌else◌, codes}
use Rattle.bac_data.specs.Events.{Event, application, contextual, opening, closing}
use Rattle.bac_record.specs.Digits.{hexadecimal}
use Rattle.bac_text.specs.Words.{number, field}
use Rattle.bac_text.specs.PrimitiveText.{primitive_text}

-- A blank, unless the event is the first of its group.
abbrev pub blank : Bool → List ℕ
blank first = if first then [] else codes " "

-- What an event adds, with a blank before it unless it is the first of its group. The end of a group has no blank
-- before it.
abbrev pub event_text : Bool → Event → List ℕ
event_text first (application prim) = blank first ++ primitive_text prim
event_text first (contextual tag octets) = blank first ++ (field "[" (number tag) ++ field "]" (hexadecimal octets))
event_text first (opening tag) = blank first ++ (field "[" (number tag) ++ codes "]{")
event_text first (closing tag) = codes "}"

-- True if the event begins a group, so that what follows it is the first of its group.
abbrev pub begins_group : Event → Bool
begins_group (application prim) = false
begins_group (contextual tag octets) = false
begins_group (opening tag) = true
begins_group (closing tag) = false

-- What all of the events add.
abbrev pub events_text : Bool → List Event → List ℕ
events_text first [] = []
events_text first (event ∷ events) = event_text first event ++ events_text (begins_group event) events
