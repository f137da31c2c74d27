-- The numbers in the events of an open value lie in their ranges.
use Rattle.std.proofs.Common.{◌≤◌, List, [], ◌∷◌, ◌++◌}
use Rattle.bac_value.specs.OctetStringContents.{IsOctetString}
use Rattle.bac_value.specs.PrimContents.{IsPrim}
use Rattle.bac_data.specs.OpenValue.{Element, primitive, context, group, Elements, none, more, IsElement, AreElements}
use Rattle.bac_data.specs.Events.{Event, application, contextual, opening, closing, element_events, events}

-- each of a list has a property
abbrev pub Each : {X : Type 0} → (X → Type 0) → List X → Type 0
Each P [] = Unit {0}
Each P (x ∷ xs) = P x × Each P xs

each-append : {X : Type 0} (P : X → Type 0) (xs ys : List X) → Each P xs → Each P ys → Each P (xs ++ ys)
each-append P [] ys h k = k
each-append P (x ∷ xs) ys h k = (h.0, each-append P xs ys h.1 k)

abbrev pub HoldsEvent : Event → Type 0
HoldsEvent (application prim) = IsPrim prim
HoldsEvent (contextual tag octets) = (tag ≤ 254) × IsOctetString octets
HoldsEvent (opening tag) = tag ≤ 254
HoldsEvent (closing tag) = tag ≤ 254

mutual
  element_holds : (element : Element) → IsElement element → Each HoldsEvent (element_events element)
  element_holds (primitive prim) h = (h, tt)
  element_holds (context tag octets) h = (h, tt)
  element_holds (group tag inner) h = (h.0, each-append HoldsEvent (events inner) (closing tag ∷ []) (elements_hold inner h.1) (h.0, tt))

  pub elements_hold : (value : Elements) → AreElements value → Each HoldsEvent (events value)
  elements_hold none h = tt
  elements_hold (more element rest) h = each-append HoldsEvent (element_events element) (events rest) (element_holds element h.0) (elements_hold rest h.1)
