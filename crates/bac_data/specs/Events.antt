-- The events of a walk over an open value.
-- How the logic stores an event, and an open value as its events, is in Codes.antt.
use Rattle.std.specs.Prelude.{◌≡◌, ℕ, ◌<◌, List, [], ◌∷◌, ◌++◌, length}
use Rattle.bac_tag.specs.declared.heads.TagHead.TheVariants.{Open, Close}
use Rattle.bac_tag.specs.Heads.{Heads}
use Rattle.bac_tag.specs.Spelling.{Joins}
use Rattle.bac_value.specs.declared.prim.PrimitiveValue.{PrimitiveValue}
use Rattle.bac_data.specs.OpenValue.{Element, primitive, context, group, Elements, none, more}
use Rattle.bac_data.specs.Spells.{SpellsPrimitive, SpellsContext}

-- An event is an application primitive, a context primitive with its number and contents, the opening of a group with its
-- number, or the closing of one with its number.
pub data Event : Type 0 where
  application : PrimitiveValue → Event
  contextual : ℕ → List ℕ → Event
  opening : ℕ → Event
  closing : ℕ → Event

abbrev mutual
  -- The events of an element, in order. A primitive has one. A group has its opening, the events inside and its closing.
  pub element_events : Element → List Event
  element_events (primitive prim) = application prim ∷ []
  element_events (context number octets) = contextual number octets ∷ []
  element_events (group number inner) = opening number ∷ (events inner ++ closing number ∷ [])

  -- The events of an open value, in order: those of each element, one element after another.
  pub events : Elements → List Event
  events none = []
  events (more element rest) = element_events element ++ events rest

-- The first of several lists of elements, or no elements if there is no list.
abbrev pub first_of : List Elements → Elements
first_of [] = none
first_of (v ∷ vs) = v

-- All of several lists of elements except the first.
abbrev pub others_of : List Elements → List Elements
others_of [] = []
others_of (v ∷ vs) = vs

-- The levels of some events with one event more at the front.
abbrev pub with_event : Event → Elements × List Elements → Elements × List Elements
with_event (application prim) s = (more (primitive prim) s.0, s.1)
with_event (contextual number octets) s = (more (context number octets) s.0, s.1)
with_event (opening number) s = (more (group number s.0) (first_of s.1), others_of s.1)
with_event (closing number) s = (none, s.0 ∷ s.1)

-- The levels of events: the elements before the first closing that ends a group opened before these events, and the
-- elements after each such closing. The events are read from the back, event by event.
abbrev pub levels : List Event → Elements × List Elements
levels [] = (none, [])
levels (e ∷ es) = with_event e (levels es)

-- The open value that events build. They are read from the back, event by event.
abbrev pub value_of_events : List Event → Elements
value_of_events es = (levels es).0

-- With the groups s open, the events es leave the groups t open. Both lists have the innermost group first. An opening is
-- possible only if fewer groups than the limit are open. A closing has the number of the innermost group and ends it.
abbrev pub Opens : ℕ → List ℕ → List Event → List ℕ → Type 0
Opens limit s [] t = s ≡ t
Opens limit s (application prim ∷ es) t = Opens limit s es t
Opens limit s (contextual number octets ∷ es) t = Opens limit s es t
Opens limit s (opening number ∷ es) t = (length s < limit) × Opens limit (number ∷ s) es t
Opens limit s (closing number ∷ es) t = (r : List ℕ) × (s ≡ number ∷ r) × Opens limit r es t

-- The event may be next if the groups s are open between enclosing tags of that number. A primitive always may. An opening
-- may if fewer groups than the limit are open. A closing has the number of the innermost group, or of the enclosing tags if
-- no group is open.
abbrev pub NextIn : ℕ → ℕ → List ℕ → Event → Type 0
NextIn limit number s (application prim) = Unit {0}
NextIn limit number s (contextual m octets) = Unit {0}
NextIn limit number s (opening m) = length s < limit
NextIn limit number [] (closing m) = m ≡ number
NextIn limit number (k ∷ s) (closing m) = m ≡ k

-- The lists that spell an event, which is a primitive or one tag. SpellsEvents uses it.
abbrev pub SpellsEvent : Event → List ℕ → Type 0
SpellsEvent (application prim) b = SpellsPrimitive prim b
SpellsEvent (contextual number octets) b = SpellsContext number octets b
SpellsEvent (opening number) b = Heads (Open number) b
SpellsEvent (closing number) b = Heads (Close number) b

-- The lists that spell events one after another. IsTooDeep in Refusals.antt uses it.
abbrev pub SpellsEvents : List Event → List ℕ → Type 0
SpellsEvents [] b = b ≡ []
SpellsEvents (e ∷ es) b = Joins (SpellsEvent e) (SpellsEvents es) b

-- The lists that spell an event that may be next, by NextIn.
pub record SpellsNext (limit number : ℕ) (s : List ℕ) (event : Event) (b : List ℕ) : Type 0 where
  pub next : NextIn limit number s event
  pub spelled : SpellsEvent event b
