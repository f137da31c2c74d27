-- What was checked, part by part.
use Rattle.std.specs.Prelude.{◌≡◌, ◌↔◌, ℕ, ◌+◌, ◌-◌, ◌<◌, ◌≤◌, List, [], ◌∷◌, ◌++◌, length, take, drop, Bool, ◌&&◌, not, IsTrue, Option, None, Some}
use Rattle.std.proofs.Common.{sym, ap, subst, arith}
use Rattle.bac_tag.specs.declared.heads.TagHead.TheVariants.{Open, Close}
use Rattle.bac_tag.specs.declared.refusals.Refusal.{Refusal}
use Rattle.bac_tag.specs.Octets.{joined_mark}
use Rattle.bac_tag.specs.Refusals.{farther_of, behind}
use Rattle.bac_tag.specs.Spelling.{IsRefusal, Joined, OneOf}
use Rattle.bac_productions.specs.Leads.{Lead, disjoint}
use Rattle.bac_productions.specs.Productions.{Grouped, Head, IsChecked, IsReach, IsRecordOf, Items, Lawful, Optional}
use Rattle.bac_productions.specs.ReadFaults.{EndsOrGoesOn}
use Rattle.bac_productions.specs.Reasons.{IsReachReason}
use Rattle.bac_productions.specs.Laws.Group.{group_longest}
use Rattle.bac_productions.specs.Laws.Least.{mark_alike, mark_both, mark_nothing}
use Rattle.bac_productions.specs.Laws.List.{HasItems, items_start, items_next, items_found, items_shrink}
use Rattle.bac_productions.specs.Laws.Longest.{pair_found, either_first}
use Rattle.bac_productions.specs.Laws.Production.{unique}
use Rattle.bac_productions.specs.Laws.Record.{record_longest}

pub checked_both : {V W : Type 0} {S : V → List ℕ → Type 0} {T : W → List ℕ → Type 0} {os cs ot ct : List Lead} {es et : Bool} (a b : Bool)
    → (IsTrue a → Lawful S os cs es) → (IsTrue b → Lawful T ot ct et) → IsTrue (a && (b && disjoint ot cs))
    → (input : List ℕ) (n k : ℕ) (m o r : Option ℕ) → IsChecked S input n m → IsChecked T (drop n input) k o → r ≡ joined_mark m n o → IsChecked (Joined S T) input (n + k) r
checked_both a b first second sound input n k m o r C D e = record {
  value = (C.value, D.value);
  longest = pair_found a b first second sound C.longest D.longest;
  marked = mark_both input n k r C.longest.within C.marked D.marked e;
}

-- a part that may be absent, where it is there
pub checked_present : {V : Type 0} {S : V → List ℕ → Type 0} {input : List ℕ} {n : ℕ} {m : Option ℕ} → IsChecked S input n m → IsChecked (Optional S) input n m
checked_present {V} {S} {input} {n} C = record { value = Some C.value; longest = record { within = C.longest.within; spelled = C.longest.spelled; most = most }; marked = C.marked }
  where
    most : (w : Option V) (c y : List ℕ) → input ≡ c ++ y → Optional S w c → length c ≤ n
    most None c y e h = omega (arith, ap (λ (l : List ℕ). length l) h)
    most (Some w) c y e h = C.longest.most w c y e h

-- a group is checked as its tags and its part
pub checked_group : {V : Type 0} {S : V → List ℕ → Type 0} (number : ℕ) {input : List ℕ} {n : ℕ} {m : Option ℕ} → IsChecked (Joined (Head (Open number)) (Joined S (Head (Close number)))) input n m → IsChecked (Grouped number S) input n m
checked_group number C = record { value = C.value.1.0; longest = group_longest number C.longest; marked = C.marked }

-- fields that are spelled are those of one record, which is spelled by the same lists
pub checked_record : {V W : Type 0} {S : W → List ℕ → Type 0} {T : V → List ℕ → Type 0} {os cs : List Lead} {e : Bool} (R : IsRecordOf S T) → Lawful S os cs e → {input : List ℕ} {n : ℕ} {m : Option ℕ} → IsChecked S input n m → IsChecked T input n m
checked_record {S} {T} {os} {cs} {e} R law {input} {n} C =
    let w = C.value in
    let front = take n input in
    let v = R.of_fields w in
    let spelled = C.longest.spelled in
    let same : w ≡ R.fields v = unique S os cs e law w (R.fields v) front spelled (R.split v front (R.joined w front spelled)) in
    let alike : (b : List ℕ) → S w b ↔ T v b = λ b. (R.joined w b, λ t. subst (λ x. S x b) (sym same) (R.split v b t)) in
    record { value = v; longest = record_longest R alike C.longest; marked = mark_alike alike C.marked }

-- ---- lists

-- some items were checked so far
pub record HasChecked {V : Type 0} (S : V → List ℕ → Type 0) (input : List ℕ) (p : ℕ) (mark : Option ℕ) (best : Refusal) : Type 0 where
  pub items : List V
  pub has : HasItems S input items p mark best

module _ {V : Type 0} {S : V → List ℕ → Type 0} {os cs : List Lead} {e : Bool} (a : Bool) (law : IsTrue a → Lawful S os cs e) (sound : IsTrue (a && (not e && disjoint os cs))) {input : List ℕ} {p : ℕ} {mark : Option ℕ} {best : Refusal}
    (H : HasChecked S input p mark best) where
  pub checked_next : {n : ℕ} {m : Option ℕ} {r : Refusal} (o : Option ℕ) (b : Refusal) → IsChecked S (drop p input) n m → IsReach S (drop p input) r → EndsOrGoesOn n r → o ≡ joined_mark mark p m → b ≡ farther_of (behind p r) best → HasChecked S input (p + n) o b
  checked_next o b C R E f g = record { items = H.items ++ C.value ∷ []; has = items_next a law sound H.has o b C.longest C.marked R E f g }

  pub checked_items : {r : Refusal} → IsRefusal S (drop p input) r → IsChecked (Items S) input p mark
  checked_items h = record { value = H.items; longest = items_found a law sound H.has h; marked = H.has.marked }

  pub checked_shrink : {n : ℕ} {m : Option ℕ} → IsChecked S (drop p input) n m → length input - (p + n) < length input - p
  checked_shrink C = items_shrink a law sound H.has C.longest
