-- The texts of the events of a value, joined, are its text.
use Rattle.std.proofs.Common.{◌≡◌, ℕ, Bool, true, false, List, [], ◌∷◌, ◌++◌, refl, sym, ◌∙◌, ap, append_assoc, append-nil}
use Rattle.std.specs.Prelude.{codes}
use Rattle.bac_data.specs.OpenValue.{Element, primitive, context, group, Elements, none, more}
use Rattle.bac_data.specs.Events.{Event, closing, element_events, events}
use Rattle.bac_text.specs.Words.{number, field}
use Rattle.bac_text.specs.OpenValueText.{element_text, elements_text, further_text}
use Rattle.bac_text.specs.WalkText.{blank, events_text}

-- a group's text in front of another one
regrouped : (b h w i c r : List ℕ) → b ++ (h ++ w) ++ (i ++ (c ++ r)) ≡ b ++ (h ++ (w ++ i) ++ c) ++ r
regrouped b h w i c r =
    append_assoc b (h ++ w) (i ++ (c ++ r))
    ∙ ap (λ l. b ++ l) (append_assoc h w (i ++ (c ++ r)) ∙ ap (λ l. h ++ l) (sym (append_assoc w i (c ++ r))) ∙ sym (append_assoc h (w ++ i) (c ++ r)) ∙ sym (append_assoc (h ++ (w ++ i)) c r))
    ∙ sym (append_assoc b (h ++ (w ++ i) ++ c) r)

mutual
  element_joined : (first : Bool) (e : Element) (es : List Event) → events_text first (element_events e ++ es) ≡ blank first ++ element_text e ++ events_text false es
  element_joined first (primitive prim) es = refl
  element_joined first (context tag octets) es = refl
  element_joined first (group tag inner) es =
      let head = field "[" (number tag) in
      ap (λ l. blank first ++ (head ++ codes "]{") ++ events_text true l) (append_assoc (events inner) (closing tag ∷ []) es)
      ∙ ap (λ l. blank first ++ (head ++ codes "]{") ++ l) (inner_joined inner tag es)
      ∙ regrouped (blank first) head (codes "]{") (elements_text inner) (codes "}") (events_text false es)

  inner_joined : (v : Elements) (tag : ℕ) (es : List Event) → events_text true (events v ++ closing tag ∷ es) ≡ elements_text v ++ (codes "}" ++ events_text false es)
  inner_joined none tag es = refl
  inner_joined (more e v) tag es =
      ap (events_text true) (append_assoc (element_events e) (events v) (closing tag ∷ es))
      ∙ element_joined true e (events v ++ closing tag ∷ es)
      ∙ ap (λ l. element_text e ++ l) (further_joined v (closing tag ∷ es))
      ∙ sym (append_assoc (element_text e) (further_text v) (codes "}" ++ events_text false es))

  further_joined : (v : Elements) (es : List Event) → events_text false (events v ++ es) ≡ further_text v ++ events_text false es
  further_joined none es = refl
  further_joined (more e v) es =
      ap (events_text false) (append_assoc (element_events e) (events v) es)
      ∙ element_joined false e (events v ++ es)
      ∙ ap (λ l. codes " " ++ element_text e ++ l) (further_joined v es)
      ∙ sym (append_assoc (codes " " ++ element_text e) (further_text v) (events_text false es))

-- the walk over a whole value
pub walk_joined : (v : Elements) → events_text true (events v) ≡ elements_text v
walk_joined none = refl
walk_joined (more e v) =
    element_joined true e (events v)
    ∙ ap (λ l. element_text e ++ l) (ap (events_text false) (sym (append-nil (events v))) ∙ further_joined v [] ∙ append-nil (further_text v))

-- ---- the loop over the walk

-- its beginning
pub walk_begins : (old out : List ℕ) (v : Elements) → out ≡ old ++ codes "{" → out ++ events_text true (events v) ≡ old ++ field "{" (elements_text v)
walk_begins old out v e = ap (λ l. l ++ events_text true (events v)) e ∙ append_assoc old (codes "{") (events_text true (events v)) ∙ ap (λ l. old ++ (codes "{" ++ l)) (walk_joined v)
