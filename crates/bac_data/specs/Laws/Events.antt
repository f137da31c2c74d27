-- The events of an open value determine it.
use Rattle.std.specs.Prelude.{◌≡◌, List, [], ◌∷◌, ◌++◌, refl}
use Rattle.std.proofs.Common.{sym, ◌∙◌, ap, append_assoc, append-nil}
use Rattle.bac_data.specs.OpenValue.{Element, primitive, context, group, Elements, none, more}
use Rattle.bac_data.specs.Events.{Event, opening, closing, element_events, events, with_event, levels, value_of_events}

mutual
  pub levels-element : (e : Element) (es : List Event) → levels (element_events e ++ es) ≡ (more e (levels es).0, (levels es).1)
  levels-element (primitive prim) es = refl
  levels-element (context number octets) es = refl
  levels-element (group number v) es =
      ap (λ l. with_event (opening number) (levels l)) (append_assoc (events v) (closing number ∷ []) es) ∙ ap (with_event (opening number)) (levels-append v (closing number ∷ es) refl)

  pub levels-append : (v : Elements) (es : List Event) → (levels es).0 ≡ none → levels (events v ++ es) ≡ (v, (levels es).1)
  levels-append none es h = ap (λ v. (v, (levels es).1)) h
  levels-append (more e v) es h =
      ap levels (append_assoc (element_events e) (events v) es) ∙ levels-element e (events v ++ es) ∙ ap (λ s. (more e s.0, s.1)) (levels-append v es h)

pub value_of_events-events : (v : Elements) → value_of_events (events v) ≡ v
value_of_events-events v = ap value_of_events (sym (append-nil (events v))) ∙ ap (λ s. s.0) (levels-append v [] refl)
