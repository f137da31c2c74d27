-- Two open values are the same where the keys of their events are.
use Rattle.std.proofs.Common.{◌≡◌, ◌↔◌, true, List, [], ◌∷◌, ◌++◌, map, refl, sym, ◌∙◌, ap, subst}
use Rattle.std.specs.List.{AllByRecursion}
use Rattle.std.specs.Cmp.{IsEquivalence, on_equiv}
use Rattle.std.specs.Cmp.Lexicographic.{pointwise_decides, bytes_decides, lists_equiv, nat_list_eq_equiv}
use Rattle.bac_value.specs.PrimContents.{IsPrim, PrimContents, prim_written}
use Rattle.bac_value.specs.Laws.Prim.{prim_once, prim_written_contents}
use Rattle.bac_data.specs.OpenValue.{Element, primitive, context, group, Elements, none, more, IsElement, AreElements}
use Rattle.bac_data.specs.Events.{Event, application, contextual, opening, closing, element_events, events, value_of_events}
use Rattle.bac_data.specs.Same.{event_key, event_keys, same_values}
use Rattle.bac_data.specs.Laws.Events.{value_of_events-events}

pub same_values_equiv : IsEquivalence same_values
same_values_equiv = on_equiv event_keys (lists_equiv nat_list_eq_equiv)

-- an application primitive of an event is a value
abbrev HasPrim : Event → Type 0
HasPrim (application prim) = IsPrim prim
HasPrim _ = Unit {0}

all_joined : (es fs : List Event) → AllByRecursion HasPrim es → AllByRecursion HasPrim fs → AllByRecursion HasPrim (es ++ fs)
all_joined [] fs p q = q
all_joined (e ∷ es) fs p q = (p.0, all_joined es fs p.1 q)

mutual
  element_prims : (x : Element) → IsElement x → AllByRecursion HasPrim (element_events x)
  element_prims (primitive prim) h = (h, tt)
  element_prims (context number octets) h = (tt, tt)
  element_prims (group number inner) h = (tt, all_joined (events inner) (closing number ∷ []) (elements_prims inner h.1) (tt, tt))

  elements_prims : (v : Elements) → AreElements v → AllByRecursion HasPrim (events v)
  elements_prims none h = tt
  elements_prims (more x rest) h = all_joined (element_events x) (events rest) (element_prims x h.0) (elements_prims rest h.1)

head_is : {X : Type 0} (x y : X) (xs ys : List X) → x ∷ xs ≡ y ∷ ys → x ≡ y
head_is x y xs ys e = cc

tail_is : {X : Type 0} (x y : X) (xs ys : List X) → x ∷ xs ≡ y ∷ ys → xs ≡ ys
tail_is x y xs ys e = cc

keys_tell_events : (es fs : List Event) → AllByRecursion HasPrim es → AllByRecursion HasPrim fs → map event_key es ≡ map event_key fs → es ≡ fs
keys_tell_events [] [] p q k = refl
keys_tell_events (application a ∷ es) (application b ∷ fs) p q k =
    let key = tail_is _ _ _ _ (head_is _ _ _ _ k) in
    let written = tail_is _ _ _ _ key in
    let prim : a ≡ b = prim_once a b (prim_written a) (head_is _ _ _ _ key) (prim_written_contents a p.0) (subst (PrimContents b) (sym written) (prim_written_contents b q.0)) in
    let rest : es ≡ fs = keys_tell_events es fs p.1 q.1 (tail_is _ _ _ _ k) in
    cc
keys_tell_events (contextual n a ∷ es) (contextual m b ∷ fs) p q k =
    let key = tail_is _ _ _ _ (head_is _ _ _ _ k) in
    let number : n ≡ m = head_is _ _ _ _ key in
    let octets : a ≡ b = tail_is _ _ _ _ key in
    let rest : es ≡ fs = keys_tell_events es fs p.1 q.1 (tail_is _ _ _ _ k) in
    cc
keys_tell_events (opening n ∷ es) (opening m ∷ fs) p q k =
    let number : n ≡ m = head_is _ _ _ _ (tail_is _ _ _ _ (head_is _ _ _ _ k)) in
    let rest : es ≡ fs = keys_tell_events es fs p.1 q.1 (tail_is _ _ _ _ k) in
    cc
keys_tell_events (closing n ∷ es) (closing m ∷ fs) p q k =
    let number : n ≡ m = head_is _ _ _ _ (tail_is _ _ _ _ (head_is _ _ _ _ k)) in
    let rest : es ≡ fs = keys_tell_events es fs p.1 q.1 (tail_is _ _ _ _ k) in
    cc
keys_tell_events es fs p q k = absurd cc

pub same_values_tell : (v w : Elements) → AreElements v → AreElements w → (same_values v w ≡ true) ↔ (v ≡ w)
same_values_tell v w p q =
    let keys = pointwise_decides bytes_decides (event_keys v) (event_keys w) in (
      λ h. sym (value_of_events-events v) ∙ ap value_of_events (keys_tell_events (events v) (events w) (elements_prims v p) (elements_prims w q) (keys.0 h)) ∙ value_of_events-events w,
      λ e. keys.1 (ap event_keys e),
    )
