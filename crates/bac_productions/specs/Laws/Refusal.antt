-- Where and why an input is refused, part by part.
use Rattle.std.specs.Prelude.{◌≡◌, ◌↔◌, ℕ, ◌+◌, ◌≤◌, List, [], ◌++◌, length, take, drop, ◌⊎◌, ◌&&◌, ◌||◌, not, IsTrue, Bool, true, false, max, refl, nat_lt, nat_eq, cond}
use Rattle.std.proofs.Common.{sym, ◌∙◌, ap, subst, inl, inr, arith, append_assoc}
use Rattle.std.proofs.lemmas.List.{append-nil, take-append-drop, length-append, length-drop, length-take-le, take-take}
use Rattle.std.proofs.lemmas.Bool.{cases_lt, ltb-true, ltb-false, eqb-true, and_parts}
use Rattle.bac_tag.specs.declared.refusals.Refusal.{Refusal}
use Rattle.bac_tag.specs.declared.refusals.Why.{Why}
use Rattle.bac_tag.specs.declared.refusals.Why.TheVariants.{Short, Trailing}
use Rattle.bac_tag.specs.Refusals.{weight_of, farther_of, behind}
use Rattle.bac_tag.specs.Spelling.{EndsItself, IsViable, IsFurthest, IsRefusal, Takes, OneOf, Joined}
use Rattle.bac_tag.specs.Laws.Spelling.{viable_front, viable-OneOf}
use Rattle.bac_productions.specs.Leads.{Lead, disjoint, BeginsIn}
use Rattle.bac_productions.specs.Laws.Lead.{begins_apart, begins_more}
use Rattle.bac_productions.specs.Productions.{Optional, Items, Lawful, IsInhabited, IsLongest, IsReach}
use Rattle.bac_productions.specs.Reasons.{IsPartReason}
use Rattle.bac_productions.specs.ReadFaults.{EndsOrGoesOn}
use Rattle.bac_productions.specs.Laws.Faults.{part_trails}
use Rattle.bac_productions.specs.Laws.Production.{begun, sound_parts, not_empty}
use Rattle.bac_productions.specs.Laws.Longest.{IsSoFar, none_first, pair_none}
use Rattle.bac_productions.specs.Laws.Reach.{pair_reach, pair_first, pair_inhabited, furthest_absent, furthest_present, IsReachSoFar, reach_end, reach_more}

-- Of two refusals one is the farther, and it came as far as the other.
pub farther_is : (r s : Refusal) → ((farther_of r s ≡ r) × (s.place ≤ r.place)) ⊎ ((farther_of r s ≡ s) × (r.place ≤ s.place))
farther_is r s = by_test (nat_lt r.place s.place) (nat_eq r.place s.place) (nat_lt (weight_of r.why) (weight_of s.why)) refl refl
  where
    by_test : (lt eq w : Bool) → nat_lt r.place s.place ≡ lt → nat_eq r.place s.place ≡ eq → ((cond (lt || (eq && w)) s r ≡ r) × (s.place ≤ r.place)) ⊎ ((cond (lt || (eq && w)) s r ≡ s) × (r.place ≤ s.place))
    by_test true eq w l e = inr (refl, (let h = ltb-true r.place s.place l in omega arith))
    by_test false true true l e = inr (refl, (let h = eqb-true r.place s.place e in omega arith))
    by_test false true false l e = inl (refl, (let h = eqb-true r.place s.place e in omega arith))
    by_test false false w l e = inl (refl, (let h = ltb-false r.place s.place l in omega arith))

-- what both come to is told by the farther one
pub reach_of : {V : Type 0} (S : V → List ℕ → Type 0) (input : List ℕ) (r s : Refusal) → IsFurthest S input (max r.place s.place) → ((r.why ≡ Short) ↔ (r.place ≡ length input)) → ((s.why ≡ Short) ↔ (s.place ≡ length input))
    → IsReach S input (farther_of r s)
reach_of S input r s F p q = elim (farther_is r s) [
  | inl h ↦ rw h.0 (let le = h.1 in record { furthest = subst (IsFurthest S input) (omega arith) F; short = p })
  | inr h ↦ rw h.0 (let le = h.1 in record { furthest = subst (IsFurthest S input) (omega arith) F; short = q })
]

-- the reasons of two parts: Trailing is told only where the second ends
pub ends_both : (n k : ℕ) (r s : Refusal) → EndsOrGoesOn n r → EndsOrGoesOn k s → k ≤ s.place → EndsOrGoesOn (n + k) (farther_of (behind n s) r)
ends_both n k r s R S le = elim (farther_is (behind n s) r) [
  | inl h ↦ subst (EndsOrGoesOn (n + k)) (sym h.0) (λ w. ap (λ (place : ℕ). n + place) (S.0 w), S.1)
  | inr h ↦ subst (EndsOrGoesOn (n + k)) (sym h.0) (λ w. (let ends = R.0 w in let far = h.1 in omega arith), R.1)
]

-- Trailing is told behind the first part only if the second is not farther, and then it is not the more telling one.
pub reasons_both : (n : ℕ) (r s : Refusal) → EndsOrGoesOn n r → IsPartReason s.why → IsPartReason (farther_of (behind n s) r).why
reasons_both n r s R p = by_test (nat_lt (n + s.place) r.place) (nat_eq (n + s.place) r.place) (nat_lt (weight_of s.why) (weight_of r.why)) refl refl
  where
    goes_on : (r.why ≡ Trailing → IsPartReason r.why) → IsPartReason r.why
    goes_on f = elim R.1 [ inl trails ↦ f trails | inr q ↦ q ]

    by_test : (lt eq w : Bool) → nat_lt (n + s.place) r.place ≡ lt → nat_lt (weight_of s.why) (weight_of r.why) ≡ w → IsPartReason (cond (lt || (eq && w)) r (behind n s)).why
    by_test true eq w l h = goes_on (λ trails. (let ends = R.0 trails in let far = ltb-true (n + s.place) r.place l in absurd (omega arith)))
    by_test false true true l h = goes_on (λ trails. (let less = ltb-true (weight_of s.why) (weight_of r.why) h in let none = ap weight_of trails in absurd (omega arith)))
    by_test false true false l h = p
    by_test false false w l h = p

-- the reasons of two cases
pub reasons_either : (r s : Refusal) → IsPartReason r.why → IsPartReason s.why → IsPartReason (farther_of r s).why
reasons_either r s p q = elim (farther_is r s) [
  | inl h ↦ subst (λ (far : Refusal). IsPartReason far.why) (sym h.0) p
  | inr h ↦ subst (λ (far : Refusal). IsPartReason far.why) (sym h.0) q
]

pub ends_either : (n : ℕ) (r s : Refusal) → EndsOrGoesOn n r → IsPartReason s.why → EndsOrGoesOn n (farther_of r s)
ends_either n r s R q = elim (farther_is r s) [
  | inl h ↦ subst (EndsOrGoesOn n) (sym h.0) R
  | inr h ↦ subst (EndsOrGoesOn n) (sym h.0) (λ w. absurd (part_trails s.why q w), inr q)
]

short_behind : (input : List ℕ) (n : ℕ) (r : Refusal) → n ≤ length input → ((r.why ≡ Short) ↔ (r.place ≡ length (drop n input))) → ((r.why ≡ Short) ↔ (n + r.place ≡ length input))
short_behind input n r le h = (λ e. omega (arith, h.0 e, length-drop n input), λ e. h.1 (omega (arith, e, length-drop n input)))

-- ---- one part behind the other

module _ {V W : Type 0} {S : V → List ℕ → Type 0} {T : W → List ℕ → Type 0} {os cs ot ct : List Lead} {es et : Bool} (a b : Bool) (LS : IsTrue a → Lawful S os cs es) (LT : IsTrue b → Lawful T ot ct et) (sound : IsTrue (a && (b && disjoint ot cs)))
    (inhabited : IsTrue b → IsInhabited T) {input : List ℕ} {v : V} {n : ℕ} (L : IsLongest S input v n) (r s : Refusal) (R : IsReach S input r) where
  pub reach_both : IsReach T (drop n input) s → IsReach (Joined S T) input (farther_of (behind n s) r)
  reach_both G =
      reach_of (Joined S T) input (behind n s) r (subst (IsFurthest (Joined S T) input) (omega arith) (pair_reach a b LS LT sound (inhabited (sound_parts a b (disjoint ot cs) sound).1) L R.furthest G.furthest)) (short_behind input n s L.within G.short) R.short

  pub refused_behind : IsRefusal T (drop n input) s → IsRefusal (Joined S T) input (farther_of (behind n s) r)
  refused_behind G =
      let reach = reach_both (record { furthest = G.furthest; short = G.short }) in
      record { none = pair_none a b LS LT sound L G.none; furthest = reach.furthest; short = reach.short }

pub sound_inhabited : {V W : Type 0} {S : V → List ℕ → Type 0} {T : W → List ℕ → Type 0} (a b d : Bool) → (IsTrue a → IsInhabited S) → (IsTrue b → IsInhabited T) → IsTrue (a && (b && d)) → IsInhabited (Joined S T)
sound_inhabited a b d first second h = let p = sound_parts a b d h in pair_inhabited (first p.0) (second p.1)

pub refused_before : {V W : Type 0} {S : V → List ℕ → Type 0} {T : W → List ℕ → Type 0} (a b d : Bool) → (IsTrue b → IsInhabited T) → IsTrue (a && (b && d)) → {input : List ℕ} {r : Refusal} → IsRefusal S input r → IsRefusal (Joined S T) input r
refused_before {S} {T} a b d inhabited sound {input} {r} h =
    let I = inhabited (sound_parts a b d sound).1 in
    record { none = none_first S T input h.none; furthest = pair_first I h.none h.furthest; short = h.short }

-- ---- an optional part

pub reach_absent : {V : Type 0} (S : V → List ℕ → Type 0) (input : List ℕ) (r : Refusal) → IsRefusal S input r → IsReach (Optional S) input r
reach_absent S input r h = record { furthest = furthest_absent S input r.place h.furthest; short = h.short }

pub reach_present : {V : Type 0} (S : V → List ℕ → Type 0) (input : List ℕ) (r : Refusal) → IsReach S input r → IsReach (Optional S) input r
reach_present S input r h = record { furthest = furthest_present S input r.place h.furthest; short = h.short }

-- ---- what ends itself

pub leaf_reach : {V : Type 0} (S : V → List ℕ → Type 0) → EndsItself S → (input : List ℕ) (v : V) (n : ℕ) (why : Why) → Takes S input (v, n) → ((why ≡ Short) ↔ (n ≡ length input)) → IsReach S input (record { place = n; why = why })
leaf_reach S ends input v n why t short = record {
  furthest = record {
    within = t.within;
    begins = record { value = v; rest = []; spelled = subst (S v) (sym (append-nil (take n input))) t.spelled };
    ends = λ lt h.
        let longer : take n (take (n + 1) input) ≡ take n input = take-take n (n + 1) input (omega arith) in
        let parts : take n input ++ (drop n (take (n + 1) input) ++ h.rest) ≡ (take (n + 1) input ++ h.rest) ++ [] =
        sym (append_assoc (take n input) (drop n (take (n + 1) input)) h.rest) ∙ ap (λ (l : List ℕ). (l ++ drop n (take (n + 1) input)) ++ h.rest) (sym longer) ∙ ap (λ (l : List ℕ). l ++ h.rest) (take-append-drop n (take (n + 1) input))
        ∙ sym (append-nil (take (n + 1) input ++ h.rest)) in
        let same = ends v h.value (take n input) (take (n + 1) input ++ h.rest) _ [] t.spelled h.spelled parts in
        omega (arith, ap length same.0, length-take-le n input t.within, length-take-le (n + 1) input (omega arith), length-append (take (n + 1) input) h.rest);
  };
  short = short;
}

-- ---- a choice

either_furthest : {V W : Type 0} (S : V → List ℕ → Type 0) (T : W → List ℕ → Type 0) (input : List ℕ) (m n : ℕ) → IsFurthest S input m → IsFurthest T input n → IsFurthest (OneOf S T) input (max m n)
either_furthest S T input m n F G =
    let fw : m ≤ length input = F.within in
    let gw : n ≤ length input = G.within in
    record {
      within = omega arith;
      begins = elim (cases_lt m n) [
        | inl lt ↦ subst (λ (i : ℕ). IsViable (OneOf S T) (take i input)) (omega arith) ((viable-OneOf S T (take n input)).1 (inr G.begins))
        | inr le ↦ subst (λ (i : ℕ). IsViable (OneOf S T) (take i input)) (omega arith) ((viable-OneOf S T (take m input)).1 (inl F.begins))
      ];
      ends = λ lt h. elim ((viable-OneOf S T (take (max m n + 1) input)).0 h) [
        | inl a ↦ F.ends (omega arith) (viable_front S input (m + 1) (max m n + 1) (omega arith) a)
        | inr b ↦ G.ends (omega arith) (viable_front T input (n + 1) (max m n + 1) (omega arith) b)
      ];
    }

pub reach_either : {V W : Type 0} (S : V → List ℕ → Type 0) (T : W → List ℕ → Type 0) (input : List ℕ) (r s : Refusal) → IsReach S input r → IsReach T input s → IsReach (OneOf S T) input (farther_of s r)
reach_either S T input r s R Q = reach_of (OneOf S T) input s r (subst (IsFurthest (OneOf S T) input) (omega arith) (either_furthest S T input r.place s.place R.furthest Q.furthest)) Q.short R.short

-- where the first case is read, the second comes no farther: no list begins both
module _ {V W : Type 0} {S : V → List ℕ → Type 0} {T : W → List ℕ → Type 0} {os cs ot ct : List Lead} {es et : Bool} (a b : Bool) (LS : IsTrue a → Lawful S os cs es) (LT : IsTrue b → Lawful T ot ct et)
    (sound : IsTrue ((a && not es) && ((b && not et) && disjoint os ot))) where
  pub reach_first : {input : List ℕ} {v : V} {n : ℕ} {r : Refusal} → IsLongest S input v n → IsReach S input r → n ≤ r.place → IsReach (OneOf S T) input r
  reach_first {input} {v} {n} {r} L R le =
      let p = sound_parts (a && not es) (b && not et) (disjoint os ot) sound in
      let x = and_parts a (not es) p.0 in
      let y = and_parts b (not et) p.1 in
      let FS = not_empty (LS x.0) x.1 in
      let FT = not_empty (LT y.0) y.1 in
      record {
        furthest = record {
          within = R.furthest.within;
          begins = (viable-OneOf S T (take r.place input)).1 (inl R.furthest.begins);
          ends = λ lt h. elim ((viable-OneOf S T (take (r.place + 1) input)).0 h) [
            | inl f ↦ R.furthest.ends lt f
            | inr g ↦
                (let whole : List ℕ = take (r.place + 1) input ++ g.rest in
                let longer : take n (take (r.place + 1) input) ≡ take n input = take-take n (r.place + 1) input (omega arith) in
                let parts : take n input ++ (drop n (take (r.place + 1) input) ++ g.rest) ≡ whole =
                sym (append_assoc (take n input) (drop n (take (r.place + 1) input)) g.rest) ∙ ap (λ (l : List ℕ). (l ++ drop n (take (r.place + 1) input)) ++ g.rest) (sym longer) ∙ ap (λ (l : List ℕ). l ++ g.rest) (take-append-drop n (take (r.place + 1) input)) in
                begins_apart os ot whole p.2 (subst (BeginsIn os) parts (begins_more os (take n input) (drop n (take (r.place + 1) input) ++ g.rest) (begun S os cs FS v (take n input) L.spelled)))
                (begun T ot ct FT g.value whole g.spelled))
          ];
        };
        short = R.short;
      }

-- ---- a list

module _ {V : Type 0} {S : V → List ℕ → Type 0} {os cs : List Lead} {e : Bool} (a : Bool) (law : IsTrue a → Lawful S os cs e) (sound : IsTrue (a && (not e && disjoint os cs))) {input : List ℕ} {vs : List V} {p : ℕ}
    (F : IsSoFar S input vs p) (best r : Refusal) (B : IsReachSoFar S input p best.place) where
  -- the reach of the items so far, and of one more
  pub reach_item : ((best.why ≡ Short) ↔ (best.place ≡ length input)) → IsReach S (drop p input) r → ((farther_of (behind p r) best).place ≡ max best.place (p + r.place)) × (((farther_of (behind p r) best).why ≡ Short) ↔ ((farther_of (behind p r) best).place ≡ length input))
  reach_item short R = elim (farther_is (behind p r) best) [
    | inl h ↦ rw h.0 (let le = h.1 in (omega arith, short_behind input p r F.within R.short))
    | inr h ↦ rw h.0 (let le = h.1 in (omega arith, short))
  ]

  pub reach_items : ((best.why ≡ Short) ↔ (best.place ≡ length input)) → IsRefusal S (drop p input) r → IsReach (Items S) input (farther_of (behind p r) best)
  reach_items short R =
      let q = sound_parts a (not e) (disjoint os cs) sound in
      let far = reach_item short (record { furthest = R.furthest; short = R.short }) in
      record { furthest = subst (IsFurthest (Items S) input) (sym far.0) (reach_end S os cs (not_empty (law q.0) q.1) q.2 input vs p best.place F B r.place R.furthest R.none); short = far.1 }

  pub reach_so_far : ((best.why ≡ Short) ↔ (best.place ≡ length input)) → {v : V} {n : ℕ} → IsLongest S (drop p input) v n → IsReach S (drop p input) r → IsReachSoFar S input (p + n) (farther_of (behind p r) best).place
  reach_so_far short {v} {n} M R =
      let q = sound_parts a (not e) (disjoint os cs) sound in
      let far = reach_item short R in
      subst (IsReachSoFar S input (p + n)) (sym far.0) (reach_more S os cs (not_empty (law q.0) q.1) q.2 input vs p best.place F B r.place R.furthest v n M)

-- ---- the same of another type

pub reach_alike : {V W : Type 0} (S : V → List ℕ → Type 0) (T : W → List ℕ → Type 0) (input : List ℕ) (r : Refusal) → ((x : V) (b : List ℕ) → S x b → (y : W) × T y b) → ((y : W) (b : List ℕ) → T y b → (x : V) × S x b)
    → IsReach S input r → IsReach T input r
reach_alike S T input r to from R =
    let back = to R.furthest.begins.value (take r.place input ++ R.furthest.begins.rest) R.furthest.begins.spelled in
    record {
      furthest = record {
        within = R.furthest.within;
        begins = record { value = back.0; rest = R.furthest.begins.rest; spelled = back.1 };
        ends = λ lt h. (let there = from h.value (take (r.place + 1) input ++ h.rest) h.spelled in R.furthest.ends lt (record { value = there.0; rest = h.rest; spelled = there.1 }));
      };
      short = R.short;
    }

-- a spelling that was read goes no farther than the reach
pub reach_taken : {V : Type 0} {S : V → List ℕ → Type 0} {input : List ℕ} {v : V} {n : ℕ} {r : Refusal} → IsLongest S input v n → IsReach S input r → n ≤ r.place
reach_taken {S} {input} {v} {n} {r} L R = elim (cases_lt r.place n) [
  | inl lt ↦
      (let whole : IsViable S (take n input) = record { value = v; rest = []; spelled = subst (S v) (sym (append-nil (take n input))) L.spelled } in
      let within : n ≤ length input = L.within in
      absurd (R.furthest.ends (omega arith) (viable_front S input (r.place + 1) n (omega arith) whole)))
  | inr ge ↦ ge
]
