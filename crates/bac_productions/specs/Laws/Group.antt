-- Groups.
use Rattle.std.specs.Prelude.{ℕ, List, [], ◌∷◌, ◌++◌, Bool, ◌&&◌, IsTrue, nat_le, refl}
use Rattle.bac_tag.specs.declared.refusals.Refusal.{Refusal}
use Rattle.bac_tag.specs.declared.heads.TagHead.TheVariants.{Open, Close}
use Rattle.bac_tag.specs.Spelling.{IsRefusal, Joined}
use Rattle.bac_tag.specs.Laws.Spelling.{refused_alike}
use Rattle.bac_productions.specs.Leads.{Lead, closing, disjoint, and_where}
use Rattle.bac_productions.specs.Laws.Lead.{disjoint_nil}
use Rattle.bac_productions.specs.Productions.{Grouped, IsInhabited, IsLongest, IsReach, Head}
use Rattle.bac_productions.specs.Laws.Production.{sound_parts}
use Rattle.bac_productions.specs.Laws.Longest.{longest_alike}
use Rattle.bac_productions.specs.Laws.Refusal.{reach_alike}
use Rattle.bac_productions.specs.Laws.Tag.{opening_inhabited, closing_inhabited}

pub group_inhabited : {V : Type 0} {S : V → List ℕ → Type 0} (cs : List Lead) (n : ℕ) (a : Bool) → (IsTrue a → IsInhabited S) → IsTrue (nat_le n 254 && (a && disjoint (closing n ∷ []) cs)) → IsInhabited (Grouped n S)
group_inhabited {S} cs n a I h =
    let p = sound_parts (nat_le n 254) a (disjoint (closing n ∷ []) cs) h in
    let o = opening_inhabited n p.0 in
    let i = I p.1 in
    let c = closing_inhabited n p.0 in
    record { value = i.value; octets = o.octets ++ (i.octets ++ c.octets); spelled = record { front = o.octets; back = i.octets ++ c.octets; first = o.spelled; second = record { front = i.octets; back = c.octets; first = i.spelled; second = c.spelled; octets = refl }; octets = refl } }

-- a group is its opening tag, its part and its closing tag
abbrev pub Tagged : {V : Type 0} → ℕ → (V → List ℕ → Type 0) → Unit {0} × (V × Unit {0}) → List ℕ → Type 0
Tagged n S = Joined (Head (Open n)) (Joined S (Head (Close n)))

pub group_sound : (os cs : List Lead) (e : Bool) (n : ℕ) (a : Bool) → IsTrue (nat_le n 254 && (a && disjoint (closing n ∷ []) cs)) → IsTrue (nat_le n 254 && ((a && (nat_le n 254 && disjoint (closing n ∷ []) cs)) && disjoint (and_where e os (closing n ∷ [])) []))
group_sound os cs e n a h =
    let p = sound_parts (nat_le n 254) a (disjoint (closing n ∷ []) cs) h in
    rw (p.0, p.1, p.2, disjoint_nil (and_where e os (closing n ∷ []))) refl

module _ {V : Type 0} {S : V → List ℕ → Type 0} {input : List ℕ} (n : ℕ) where
  pub group_longest : {v : V} {k : ℕ} → IsLongest (Tagged n S) input (tt, (v, tt)) k → IsLongest (Grouped n S) input v k
  group_longest {v} {k} L = longest_alike (Tagged n S) (Grouped n S) input (tt, (v, tt)) v k (λ b s. s) (λ x b t. ((tt, (x, tt)), t)) L

  pub group_reach : {r : Refusal} → IsReach (Tagged n S) input r → IsReach (Grouped n S) input r
  group_reach {r} h = reach_alike (Tagged n S) (Grouped n S) input r (λ x b s. (x.1.0, s)) (λ v b t. ((tt, (v, tt)), t)) h

  pub group_refused : {r : Refusal} → IsRefusal (Tagged n S) input r → IsRefusal (Grouped n S) input r
  group_refused {r} h = refused_alike (Tagged n S) (Grouped n S) input r (λ x b s. (x.1.0, s)) (λ v b t. ((tt, (v, tt)), t)) h
