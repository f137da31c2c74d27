-- Laws on contents of any type.
use Rattle.std.proofs.Common.{◌≡◌, ℕ, ◌+◌, List, ◌++◌, length, take, drop, take-append-drop, Option, Some, None, refl, sym, subst, ◌∙◌, ap}
use Rattle.std.specs.Prelude.{IfNone}
use Rattle.bac_tag.specs.Octets.{NoGreater}
use Rattle.bac_tag.specs.Laws.Octets.{NoGreater-same}
use Rattle.bac_value.specs.Primitives.{IsTheList, IsHopelessAt}

-- ---- types of which each value has one list

pub the_list_only_values : {V : Type 0} (IsValue : V → Type 0) (list : V → List ℕ) (value : V) (octets : List ℕ) → IsTheList IsValue list value octets → IsValue value
the_list_only_values IsValue list value octets h = h.value_holds

pub the_list_written : {V : Type 0} (IsValue : V → Type 0) (list : V → List ℕ) (value : V) → IsValue value → IsTheList IsValue list value (list value)
the_list_written IsValue list value h = record { value_holds = h; is = refl }

pub the_list_least : {V : Type 0} (IsValue : V → Type 0) (list : V → List ℕ) (value : V) (octets : List ℕ) → IsTheList IsValue list value octets → NoGreater (list value) octets
the_list_least IsValue list value octets h = NoGreater-same _ _ (sym h.is)

-- two values with one list
pub the_list_once : {V : Type 0} (IsValue : V → Type 0) (list : V → List ℕ) → ((a b : V) → IsValue a → IsValue b → list a ≡ list b → a ≡ b)
    → (a b : V) (octets : List ℕ) → IsTheList IsValue list a octets → IsTheList IsValue list b octets → a ≡ b
the_list_once IsValue list once a b octets p q = once a b p.value_holds q.value_holds (sym p.is ∙ q.is)

-- ---- what is hopeless

-- what is hopeless at a place are contents of no value
pub hopeless_none : {V : Type 0} (contents : V → List ℕ → Type 0) (octets : List ℕ) (place : ℕ) → IsHopelessAt contents octets (length octets) place
    → (value : V) → contents value octets → ⊥
hopeless_none contents octets place h value spelled =
    let whole : take (place + 1) octets ++ drop (place + 1) octets ≡ octets = take-append-drop (place + 1) octets in
    h.2 (record { value = value; rest = drop (place + 1) octets; spelled = subst (contents value) (sym whole) spelled; sized = ap length whole })

-- what follows from what a clause says where there is no value
pub IfNone_then : (r : Option ℕ) (P Q : Type 0) → IfNone r P → (P → Q) → IfNone r Q
IfNone_then None P Q h f = f h
IfNone_then (Some x) P Q h f = tt
