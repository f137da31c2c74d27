-- Lists, item by item.
use Rattle.std.specs.Prelude.{◌≡◌, ◌↔◌, ℕ, ◌+◌, ◌-◌, ◌≤◌, ◌<◌, List, [], ◌∷◌, ◌++◌, length, take, drop, Bool, ◌&&◌, not, IsTrue, Option, None, refl}
use Rattle.bac_tag.specs.declared.refusals.Refusal.{Refusal}
use Rattle.bac_tag.specs.declared.refusals.Why.TheVariants.{Short}
use Rattle.bac_tag.specs.Octets.{joined_mark}
use Rattle.bac_tag.specs.Refusals.{farther_of, behind}
use Rattle.bac_tag.specs.Spelling.{IsRefusal, Takes, HasMark}
use Rattle.bac_productions.specs.Leads.{Lead, disjoint}
use Rattle.bac_productions.specs.Productions.{HasLeast, Items, Lawful, IsInhabited, IsLongest, IsReach, mark_within}
use Rattle.bac_productions.specs.Laws.Production.{sound_parts, not_empty}
use Rattle.bac_productions.specs.Laws.Longest.{IsSoFar, some_taken, some_spelled, so_far_start, so_far_end, list_more, items_snoc, take_add}
use Rattle.bac_productions.specs.Laws.Reach.{IsReachSoFar, reach_start}
use Rattle.bac_productions.specs.Laws.Refusal.{farther_is, reach_taken, reach_item, reach_items, reach_so_far}
use Rattle.bac_productions.specs.Reasons.{IsPartReason, IsReachReason}
use Rattle.bac_productions.specs.Laws.Faults.{part_trails}
use Rattle.bac_productions.specs.ReadFaults.{EndsOrGoesOn}
use Rattle.bac_productions.specs.Laws.Least.{mark_nothing, mark_item, mark_either_item}
use Rattle.std.proofs.Common.{sym, subst, inl, inr, arith, length-drop}
use Rattle.std.proofs.lemmas.List.{length-take-le}

pub items_inhabited : {V : Type 0} (S : V → List ℕ → Type 0) → IsInhabited (Items S)
items_inhabited S = record { value = []; octets = []; spelled = refl }

-- what is known of the items so far
pub record HasItems {V : Type 0} (S : V → List ℕ → Type 0) (input : List ℕ) (vs : List V) (p : ℕ) (mark : Option ℕ) (best : Refusal) : Type 0 where
  pub so_far : IsSoFar S input vs p
  pub marked : HasMark (Items S vs) (take p input) mark
  pub reach : IsReachSoFar S input p best.place
  pub short : (best.why ≡ Short) ↔ (best.place ≡ length input)
  pub ends : EndsOrGoesOn p best

pub items_start : {V : Type 0} (S : V → List ℕ → Type 0) (input : List ℕ) (best : Refusal) → best.place ≡ 0 → ((best.why ≡ Short) ↔ (0 ≡ length input)) → IsReachReason best.why → HasItems S input [] 0 None best
items_start S input best e short reason = record {
  so_far = so_far_start S input;
  marked = mark_nothing;
  reach = subst (IsReachSoFar S input 0) (sym e) (reach_start S input);
  short = subst (λ (n : ℕ). (best.why ≡ Short) ↔ (n ≡ length input)) (sym e) short;
  ends = (λ w. e, reason);
}

module _ {V : Type 0} {S : V → List ℕ → Type 0} {os cs : List Lead} {e : Bool} (a : Bool) (law : IsTrue a → Lawful S os cs e) (sound : IsTrue (a && (not e && disjoint os cs))) {input : List ℕ} {vs : List V} {p : ℕ} {mark : Option ℕ} {best : Refusal}
    (H : HasItems S input vs p mark best) where
  ends_next : (n : ℕ) (r : Refusal) → n ≤ r.place → EndsOrGoesOn n r → EndsOrGoesOn (p + n) (farther_of (behind p r) best)
  ends_next n r le E = elim (farther_is (behind p r) best) [
    | inl h ↦ rw h.0 (λ w. (let at = E.0 w in omega arith), E.1)
    | inr h ↦ rw h.0 (λ w. (let at = H.ends.0 w in let far = h.1 in omega arith), H.ends.1)
  ]

  pub items_next : {v : V} {n : ℕ} {m : Option ℕ} {r : Refusal} (o : Option ℕ) (b : Refusal) → IsLongest S (drop p input) v n → HasMark (S v) (take n (drop p input)) m → IsReach S (drop p input) r → EndsOrGoesOn n r → o ≡ joined_mark mark p m → b ≡ farther_of (behind p r) best
      → HasItems S input (vs ++ v ∷ []) (p + n) o b
  items_next {v} {n} {m} {r} o b L M R E e f =
      let within : p ≤ length input = H.so_far.within in
      rw (e, f) (record {
        so_far = list_more a law sound H.so_far L;
        marked = rw (take_add p n input within) (subst (λ (i : ℕ). HasMark (Items S (vs ++ v ∷ [])) (take p input ++ take n (drop p input)) (joined_mark mark i m)) (length-take-le p input within) (mark_item S vs v H.marked M));
        reach = reach_so_far a law sound H.so_far best r H.reach H.short L R;
        short = (reach_item a law sound H.so_far best r H.reach H.short R).1;
        ends = ends_next n r (reach_taken L R) E;
      })

  pub items_end : (r : Refusal) → IsRefusal S (drop p input) r → IsReach (Items S) input (farther_of (behind p r) best)
  items_end r h = reach_items a law sound H.so_far best r H.reach H.short h

  pub items_ends : (r : Refusal) → IsPartReason r.why → EndsOrGoesOn p (farther_of (behind p r) best)
  items_ends r part = elim (farther_is (behind p r) best) [
    | inl h ↦ rw h.0 (λ w. absurd (part_trails r.why part w), inr part)
    | inr h ↦ rw h.0 H.ends
  ]

  pub items_found : {r : Refusal} → IsRefusal S (drop p input) r → IsLongest (Items S) input vs p
  items_found h = so_far_end S input vs p H.so_far h.none

  -- an item takes an octet at least, so that less is left behind it
  pub items_shrink : {v : V} {n : ℕ} → IsLongest S (drop p input) v n → length input - (p + n) < length input - p
  items_shrink {v} {n} L =
      let q = sound_parts a (not e) (disjoint os cs) sound in
      let some = some_taken S os cs (not_empty (law q.0) q.1) (drop p input) v n L in
      let rest = L.within in
      omega (arith, some, rest, length-drop p input)

-- items that were found, and how many of their octets are canonical, where that is wanted
pub record TakesItems {V : Type 0} (S : V → List ℕ → Type 0) (input : List ℕ) (vs : List V) (p s : ℕ) (wanted : Bool) : Type 0 where
  pub within : p ≤ length input
  pub spelled : Items S vs (take p input)
  pub marked : IsTrue wanted → HasMark (Items S vs) (take p input) (mark_within p s)
  pub same : s ≤ p

pub takes_none : {V : Type 0} (S : V → List ℕ → Type 0) (input : List ℕ) (wanted : Bool) → TakesItems S input [] 0 0 wanted
takes_none S input wanted = record { within = omega arith; spelled = refl; marked = λ w. mark_nothing; same = omega arith }

module _ {V : Type 0} {S : V → List ℕ → Type 0} {input : List ℕ} {vs : List V} {p s : ℕ} {wanted : Bool} (H : TakesItems S input vs p s wanted) where
  pub takes_next : HasLeast S → {v : V} {n : ℕ} {behind : Bool} (t r : ℕ) → Takes S (drop p input) (v, n) → (IsTrue behind → HasMark (S v) (take n (drop p input)) (mark_within n t)) → (IsTrue wanted × (s ≡ p) → IsTrue behind)
      → (s < p → r ≡ s) → (p ≤ s → r ≡ p + t) → r ≤ p + n → TakesItems S input (vs ++ v ∷ []) (p + n) r wanted
  takes_next has {v} {n} {behind} t r T M W first second le =
      let long : p ≤ length input = H.within in
      record {
        within = let h : n ≤ length (drop p input) = T.within in omega (arith, long, length-drop p input);
        spelled = rw (take_add p n input long) (items_snoc S vs v (take p input) (take n (drop p input)) H.spelled T.spelled);
        marked = λ w. mark_either_item S vs v input p s n t r long H.same (H.marked w) (has v (take n (drop p input)) T.spelled) (λ e. M (W (w, e))) first second;
        same = le;
      }

  pub takes_shrink : {os cs : List Lead} {e : Bool} (a : Bool) → (IsTrue a → Lawful S os cs e) → IsTrue (a && (not e && disjoint os cs)) → {v : V} {n : ℕ} → Takes S (drop p input) (v, n) → length input - (p + n) < length input - p
  takes_shrink {os} {cs} {e} a law sound {v} {n} T =
      let q = sound_parts a (not e) (disjoint os cs) sound in
      let some = some_spelled S os cs (not_empty (law q.0) q.1) (drop p input) v n T.spelled in
      let rest : n ≤ length (drop p input) = T.within in
      omega (arith, some, rest, length-drop p input)
