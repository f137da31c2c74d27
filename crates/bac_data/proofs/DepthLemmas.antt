-- Where another group begins that may not.
use Rattle.std.specs.Prelude.{◌≡◌, ◌↔◌, ℕ, ◌+◌, ◌<◌, ◌≤◌, ◌%◌, Bool, true, false, IsTrue, List, [], ◌∷◌, length, drop, slice_index}
use Rattle.std.proofs.Common.{sym, ◌∙◌, ap, subst, arith, length-drop, add-zero}
use Rattle.std.proofs.lemmas.List.{get_or-drop}
use Rattle.bac_tag.specs.declared.refusals.Refusal.{Refusal}
use Rattle.bac_tag.specs.declared.refusals.Why.TheVariants.{Depth}
use Rattle.bac_data.specs.Events.{Event, application, contextual, opening, closing, Opens}
use Rattle.bac_data.specs.Building.{IsPlace}
use Rattle.bac_data.specs.Refusals.{BeginsGroup, IsTooDeep}
use Rattle.bac_data.proofs.AnyLemmas.{HasRead}

-- no more groups are open than the limit
pub opens_bound : (limit : ℕ) (es : List Event) (s t : List ℕ) → length s ≤ limit → Opens limit s es t → length t ≤ limit
opens_bound limit [] s t h o = subst (λ (l : List ℕ). length l ≤ limit) o h
opens_bound limit (application prim ∷ es) s t h o = opens_bound limit es s t h o
opens_bound limit (contextual number octets ∷ es) s t h o = opens_bound limit es s t h o
opens_bound limit (opening number ∷ es) s t h o = let few : length (number ∷ s) ≤ limit = omega (arith, o.0) in opens_bound limit es (number ∷ s) t few o.1
opens_bound limit (closing number ∷ es) s t h (r, e, o) = let few : length r ≤ limit = omega (arith, ap length e) in opens_bound limit es r t few o

no_room : (b : Bool) (n limit : ℕ) → (IsTrue b ↔ (n < limit)) → b ≡ false → n ≤ limit → n ≡ limit
no_room b n limit room e few = omega (arith, (λ (lt : n < limit). let i : true ≡ false = sym (room.1 lt) ∙ e in let z : ⊥ = cc in z))

too_deep : (n : ℕ) (input : List ℕ) (place : ℕ) (es : List Event) (room : Bool) (last : ℕ) → HasRead n input place es → IsPlace 32 n es room last → room ≡ false → BeginsGroup 0 (drop place input) → IsTooDeep 32 n input place
too_deep n input place es room last h (s, o, may, l) none begins = record {
  events = es;
  spelled = h.spelled;
  full = (s, o, no_room room (length s) 32 may none (opens_bound 32 es [] s (omega arith) o));
  begins = (omega (arith, begins.0, length-drop place input), subst (λ (octet : ℕ). octet % 16 ≡ 14) (get_or-drop place input 0 0 ∙ ap (slice_index input) (add-zero place)) begins.1);
}

-- what is refused for its depth behind the events so far
pub too_deep_behind : (n : ℕ) (input : List ℕ) (place : ℕ) (es : List Event) (room : Bool) (last : ℕ) (r : Refusal) → HasRead n input place es → IsPlace 32 n es room last
    → ((r.why ≡ Depth) ↔ ((room ≡ false) × (r.place ≡ 0) × BeginsGroup 0 (drop place input))) → r.why ≡ Depth → IsTooDeep 32 n input (place + r.place)
too_deep_behind n input place es room last r h p same deep =
    let (none, first, begins) = same.0 deep in
    let at : place ≡ place + r.place = omega arith in
    subst (IsTooDeep 32 n input) at (too_deep n input place es room last h p none begins)
