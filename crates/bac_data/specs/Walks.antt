-- A step of a walk as an event.
use Rattle.std.specs.Prelude.{◌≡◌, ℕ, Option, None, Some, List, ◌∷◌, ◌++◌, IfSome}
use Rattle.std.specs.Iterator.{YieldsFirstBy}
use Rattle.bac_value.specs.PrimRefValue.{prim_of, IsPackedRef}
use Rattle.bac_data.specs.declared.walking.Event.{Event as Step}
use Rattle.bac_data.specs.declared.walking.Event.TheVariants.{App, Ctx, Open, Close}
use Rattle.bac_data.specs.OpenValue.{Elements}
use Rattle.bac_data.specs.Events.{Event, application, contextual, opening, closing, events}

-- The event that a step of a walk is. A step is the program's Event, in which primitives and contents are borrowed.
abbrev pub event_of : Step → Event
event_of (App prim) = application (prim_of prim)
event_of (Ctx number octets) = contextual number octets.now
event_of (Open number) = opening number
event_of (Close number) = closing number

-- If the step is a bit string, its octets hold its bits and nothing else.
abbrev pub IsPackedStep : Step → Type 0
IsPackedStep (App prim) = IsPackedRef prim
IsPackedStep _ = Unit {0}

-- The first of the events that a walk has left is the step that it gives, and the others are left. The step is packed, by
-- IsPackedStep. If no event is left, the walk gives no step.
abbrev pub GivesStep : List Event → Option Step → List Event → Type 0
GivesStep walk step rest = YieldsFirstBy event_of (λ (left : List Event). left) walk step rest × IfSome step IsPackedStep

-- No group begins these events.
abbrev pub BeginsNoGroup : List Event → Type 0
BeginsNoGroup walk = (number : ℕ) (others : List Event) → walk ≡ opening number ∷ others → ⊥

-- The group that begins the events is passed over, and its number is given. If no group begins them, they stay.
abbrev pub SkipsGroup : List Event → Option ℕ → List Event → Type 0
SkipsGroup walk None rest = (rest ≡ walk) × BeginsNoGroup walk
SkipsGroup walk (Some number) rest = (inner : Elements) × (walk ≡ opening number ∷ (events inner ++ closing number ∷ rest))
