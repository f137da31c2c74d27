-- The laws of productions.
use Rattle.std.specs.Prelude.{◌≡◌, ℕ, List, [], ◌∷◌, ◌++◌, Bool, true, false, ◌&&◌, not, ◌⊎◌, IsTrue, Option, Some, None, nat_le, refl}
use Rattle.std.proofs.Common.{sym, ◌∙◌, ap, subst, inl, inr, append_assoc, append-nil}
use Rattle.std.proofs.lemmas.List.{append_cancel_left}
use Rattle.std.proofs.lemmas.Bool.{and_parts, not-true}
use Rattle.bac_tag.specs.declared.heads.TagHead.{TagHead}
use Rattle.bac_tag.specs.declared.heads.TagHead.TheVariants.{Open, Close}
use Rattle.bac_tag.specs.Laws.Heads.{heads_end}
use Rattle.bac_tag.specs.Spelling.{EndsItself, OneOf, Joined}
use Rattle.bac_productions.specs.Leads.{Lead, opening, closing, lead_of, disjoint, and_where, BeginsIn}
use Rattle.bac_productions.specs.Laws.Lead.{begins_apart, begins_more, begins_not_nil, begins_first, begins_also, head_begins, disjoint_nil}
use Rattle.bac_productions.specs.Productions.{Optional, Items, Grouped, IsRecordOf, Aligned, Lawful, Head}
use Rattle.bac_productions.specs.Productions.Aligned.{same, shorter, longer}

flip : {V : Type 0} (ts : List Lead) (v w : V) (b c : List ℕ) → Aligned ts v w b c → Aligned ts w v c b
flip ts v w b c (same p q) = same (sym p) (sym q)
flip ts v w b c (shorter z e s) = longer z e s
flip ts v w b c (longer z e s) = shorter z e s

module _ {V W : Type 0} (S : V → List ℕ → Type 0) (T : W → List ℕ → Type 0) (os cs ot ct : List Lead) (es et : Bool) (LS : Lawful S os cs es) (LT : Lawful T ot ct et) (apart : IsTrue (disjoint ot cs)) where
  -- where the first part of one ends before the other's, the second part of the one is empty
  early : (p q : V × W) (b c x y b1 b2 c1 c2 z : List ℕ) → T p.1 b2 → b ≡ b1 ++ b2 → c ≡ c1 ++ c2 → c1 ≡ b1 ++ z → BeginsIn cs z
      → b1 ++ (b2 ++ x) ≡ c1 ++ (c2 ++ y) → ((b2 ≡ []) × IsTrue et) ⊎ BeginsIn ot b2 → Aligned (and_where et ct cs) p q b c
  early p q b c x y b1 b2 c1 c2 z t eb ec ez s e (inl h) =
      shorter (z ++ c2) (ec ∙ ap (λ (l : List ℕ). l ++ c2) ez ∙ append_assoc b1 z c2 ∙ ap (λ (l : List ℕ). l ++ (z ++ c2)) (sym (append-nil b1) ∙ ap (λ (l : List ℕ). b1 ++ l) (sym h.0) ∙ sym eb)) (begins_also et ct cs (z ++ c2) h.1 (begins_more cs z c2 s))
  early p q b c x y b1 b2 c1 c2 z t eb ec ez s e (inr o) =
      let e2 : b1 ++ (b2 ++ x) ≡ b1 ++ (z ++ (c2 ++ y)) = e ∙ ap (λ (l : List ℕ). l ++ (c2 ++ y)) ez ∙ append_assoc b1 z (c2 ++ y) in
      let e3 : b2 ++ x ≡ z ++ (c2 ++ y) = append_cancel_left b1 (b2 ++ x) (z ++ (c2 ++ y)) e2 in
      let left : BeginsIn ot (z ++ (c2 ++ y)) = subst (λ (l : List ℕ). BeginsIn ot l) e3 (begins_more ot b2 x o) in
      absurd (begins_apart ot cs (z ++ (c2 ++ y)) apart left (begins_more cs z (c2 ++ y) s))

  later : (p q : V × W) (b c x y b1 b2 c1 c2 : List ℕ) → p.0 ≡ q.0 → b ≡ b1 ++ b2 → c ≡ c1 ++ c2 → b1 ≡ c1 → Aligned ct p.1 q.1 b2 c2 → Aligned (and_where et ct cs) p q b c
  later p q b c x y b1 b2 c1 c2 ep eb ec e1 (same eq e2) = same (λ i. (ep i, eq i)) (cc)
  later p q b c x y b1 b2 c1 c2 ep eb ec e1 (shorter z e2 s) =
      shorter z (ec ∙ ap (λ (l : List ℕ). c1 ++ l) e2 ∙ sym (append_assoc c1 b2 z) ∙ ap (λ (l : List ℕ). (l ++ b2) ++ z) (sym e1) ∙ ap (λ (l : List ℕ). l ++ z) (sym eb)) (begins_first et ct cs z s)
  later p q b c x y b1 b2 c1 c2 ep eb ec e1 (longer z e2 s) =
      longer z (eb ∙ ap (λ (l : List ℕ). b1 ++ l) e2 ∙ sym (append_assoc b1 c2 z) ∙ ap (λ (l : List ℕ). (l ++ c2) ++ z) e1 ∙ ap (λ (l : List ℕ). l ++ z) (sym ec)) (begins_first et ct cs z s)

  joined_aligned : (p q : V × W) (b c x y : List ℕ) (m : Joined S T p b) (n : Joined S T q c) → b ++ x ≡ c ++ y
      → m.front ++ (m.back ++ x) ≡ n.front ++ (n.back ++ y) → Aligned cs p.0 q.0 m.front n.front → Aligned (and_where et ct cs) p q b c
  joined_aligned p q b c x y m n e e2 (same ep e1) =
      let e3 : m.back ++ x ≡ n.back ++ y = append_cancel_left m.front (m.back ++ x) (n.back ++ y) (e2 ∙ ap (λ (l : List ℕ). l ++ (n.back ++ y)) (sym e1)) in
      later p q b c x y m.front m.back n.front n.back ep m.octets n.octets e1 (LT.aligned p.1 q.1 m.back n.back x y m.second n.second e3)
  joined_aligned p q b c x y m n e e2 (shorter z ez s) =
      early p q b c x y m.front m.back n.front n.back z m.second m.octets n.octets ez s e2 (LT.opens p.1 m.back m.second)
  joined_aligned p q b c x y m n e e2 (longer z ez s) =
      flip (and_where et ct cs) q p c b (early q p c b y x n.front n.back m.front m.back z n.second n.octets m.octets ez s (sym e2) (LT.opens q.1 n.back n.second))

  both_opens : (p : V × W) (b : List ℕ) (m : Joined S T p b) → ((m.front ≡ []) × IsTrue es) ⊎ BeginsIn os m.front → ((m.back ≡ []) × IsTrue et) ⊎ BeginsIn ot m.back
      → ((b ≡ []) × IsTrue (es && et)) ⊎ BeginsIn (and_where es os ot) b
  both_opens p b m (inr o) k = inr (begins_first es os ot b (subst (λ (l : List ℕ). BeginsIn os l) (sym m.octets) (begins_more os m.front m.back o)))
  both_opens p b m (inl h) (inl k) = inl (m.octets ∙ rw (h.0, k.0) refl, rw (h.1, k.1) refl)
  both_opens p b m (inl h) (inr o) = inr (begins_also es os ot b h.1 (subst (λ (l : List ℕ). BeginsIn ot l) (sym (m.octets ∙ rw h.0 refl)) o))

  pub both_lawful : Lawful (Joined S T) (and_where es os ot) (and_where et ct cs) (es && et)
  both_lawful = record {
    opens = λ p b m. both_opens p b m (LS.opens p.0 m.front m.first) (LT.opens p.1 m.back m.second);
    aligned = λ p q b c x y m n e.
        let e2 : m.front ++ (m.back ++ x) ≡ n.front ++ (n.back ++ y) = sym (append_assoc m.front m.back x) ∙ ap (λ (l : List ℕ). l ++ x) (sym m.octets) ∙ e ∙ ap (λ (l : List ℕ). l ++ y) n.octets ∙ append_assoc n.front n.back y in
        joined_aligned p q b c x y m n e e2 (LS.aligned p.0 q.0 m.front n.front (m.back ++ x) (n.back ++ y) m.first n.first e2);
  }

module _ {V : Type 0} (S : V → List ℕ → Type 0) (os cs : List Lead) (L : Lawful S os cs false) where
  -- what may not be empty begins with an opener
  pub begun : (v : V) (b : List ℕ) → S v b → BeginsIn os b
  begun v b s = elim (L.opens v b s) [ inl h ↦ absurd (cc) | inr o ↦ o ]

  some_aligned : (v w : V) (b c : List ℕ) → Aligned cs v w b c → Aligned (os ++ cs) (Some v) (Some w) b c
  some_aligned v w b c (same p q) = same (ap Some p) q
  some_aligned v w b c (shorter z e s) = shorter z e (begins_also true os cs z refl s)
  some_aligned v w b c (longer z e s) = longer z e (begins_also true os cs z refl s)

  optional_opens : (o : Option V) (b : List ℕ) → Optional S o b → ((b ≡ []) × IsTrue true) ⊎ BeginsIn os b
  optional_opens None b e = inl (e, refl)
  optional_opens (Some v) b s = inr (begun v b s)

  optional_aligned : (o p : Option V) (b c x y : List ℕ) → Optional S o b → Optional S p c → b ++ x ≡ c ++ y → Aligned (os ++ cs) o p b c
  optional_aligned None None b c x y s t e = same refl (s ∙ sym t)
  optional_aligned None (Some w) b c x y s t e = shorter c (rw s refl) (begins_first true os cs c (begun w c t))
  optional_aligned (Some v) None b c x y s t e = longer b (rw t refl) (begins_first true os cs b (begun v b s))
  optional_aligned (Some v) (Some w) b c x y s t e = some_aligned v w b c (L.aligned v w b c x y s t e)

  pub optional_lawful : Lawful (Optional S) os (os ++ cs) true
  optional_lawful = record { opens = optional_opens; aligned = optional_aligned }

  items_opens : (vs : List V) (b : List ℕ) → Items S vs b → ((b ≡ []) × IsTrue true) ⊎ BeginsIn os b
  items_opens [] b e = inl (e, refl)
  items_opens (v ∷ vs) b m = inr (subst (λ (l : List ℕ). BeginsIn os l) (sym m.octets) (begins_more os m.front m.back (begun v m.front m.first)))

  module _ (apart : IsTrue (disjoint os cs)) where
    items_early : (vs ws : List V) (b c x y b1 b2 c1 c2 z : List ℕ) → Items S vs b2 → b ≡ b1 ++ b2 → c ≡ c1 ++ c2 → c1 ≡ b1 ++ z → BeginsIn cs z
        → b1 ++ (b2 ++ x) ≡ c1 ++ (c2 ++ y) → (us : List V) → Aligned (os ++ cs) us ws b c
    items_early vs ws b c x y b1 b2 c1 c2 z t eb ec ez s e us = elim (items_opens vs b2 t) [
      | inl h ↦ shorter (z ++ c2) (ec ∙ ap (λ (l : List ℕ). l ++ c2) ez ∙ append_assoc b1 z c2 ∙ ap (λ (l : List ℕ). l ++ (z ++ c2)) (sym (append-nil b1) ∙ ap (λ (l : List ℕ). b1 ++ l) (sym h.0) ∙ sym eb)) (begins_also true os cs (z ++ c2) refl (begins_more cs z c2 s))
      | inr o ↦
          let e2 : b1 ++ (b2 ++ x) ≡ b1 ++ (z ++ (c2 ++ y)) = e ∙ ap (λ (l : List ℕ). l ++ (c2 ++ y)) ez ∙ append_assoc b1 z (c2 ++ y) in
          let e3 : b2 ++ x ≡ z ++ (c2 ++ y) = append_cancel_left b1 (b2 ++ x) (z ++ (c2 ++ y)) e2 in
          let left : BeginsIn os (z ++ (c2 ++ y)) = subst (λ (l : List ℕ). BeginsIn os l) e3 (begins_more os b2 x o) in
          absurd (begins_apart os cs (z ++ (c2 ++ y)) apart left (begins_more cs z (c2 ++ y) s))
    ]

    items_later : (v w : V) (vs ws : List V) (b c b1 b2 c1 c2 : List ℕ) → v ≡ w → b ≡ b1 ++ b2 → c ≡ c1 ++ c2 → b1 ≡ c1 → Aligned (os ++ cs) vs ws b2 c2 → Aligned (os ++ cs) (v ∷ vs) (w ∷ ws) b c
    items_later v w vs ws b c b1 b2 c1 c2 ep eb ec e1 (same eq e2) = same (cc) (cc)
    items_later v w vs ws b c b1 b2 c1 c2 ep eb ec e1 (shorter z e2 s) =
        shorter z (ec ∙ ap (λ (l : List ℕ). c1 ++ l) e2 ∙ sym (append_assoc c1 b2 z) ∙ ap (λ (l : List ℕ). (l ++ b2) ++ z) (sym e1) ∙ ap (λ (l : List ℕ). l ++ z) (sym eb)) s
    items_later v w vs ws b c b1 b2 c1 c2 ep eb ec e1 (longer z e2 s) =
        longer z (eb ∙ ap (λ (l : List ℕ). b1 ++ l) e2 ∙ sym (append_assoc b1 c2 z) ∙ ap (λ (l : List ℕ). (l ++ c2) ++ z) e1 ∙ ap (λ (l : List ℕ). l ++ z) (sym ec)) s

    items_aligned : (vs ws : List V) (b c x y : List ℕ) → Items S vs b → Items S ws c → b ++ x ≡ c ++ y → Aligned (os ++ cs) vs ws b c
    items_aligned [] [] b c x y s t e = same refl (s ∙ sym t)
    items_aligned [] (w ∷ ws) b c x y s t e = elim (items_opens (w ∷ ws) c t) [
      | inl h ↦ absurd (begins_not_nil os (subst (λ (l : List ℕ). BeginsIn os l) (sym t.octets ∙ h.0) (begins_more os t.front t.back (begun w t.front t.first))))
      | inr o ↦ shorter c (rw s refl) (begins_first true os cs c o)
    ]
    items_aligned (v ∷ vs) [] b c x y s t e = elim (items_opens (v ∷ vs) b s) [
      | inl h ↦ absurd (begins_not_nil os (subst (λ (l : List ℕ). BeginsIn os l) (sym s.octets ∙ h.0) (begins_more os s.front s.back (begun v s.front s.first))))
      | inr o ↦ longer b (rw t refl) (begins_first true os cs b o)
    ]
    items_aligned (v ∷ vs) (w ∷ ws) b c x y m n e =
        let e2 : m.front ++ (m.back ++ x) ≡ n.front ++ (n.back ++ y) = sym (append_assoc m.front m.back x) ∙ ap (λ (l : List ℕ). l ++ x) (sym m.octets) ∙ e ∙ ap (λ (l : List ℕ). l ++ y) n.octets ∙ append_assoc n.front n.back y in
        let rest : m.front ≡ n.front → Aligned (os ++ cs) vs ws m.back n.back = λ e1.
        items_aligned vs ws m.back n.back x y m.second n.second (append_cancel_left m.front (m.back ++ x) (n.back ++ y) (e2 ∙ ap (λ (l : List ℕ). l ++ (n.back ++ y)) (sym e1))) in
        elim (L.aligned v w m.front n.front (m.back ++ x) (n.back ++ y) m.first n.first e2) [
          | same ep e1 ↦ items_later v w vs ws b c m.front m.back n.front n.back ep m.octets n.octets e1 (rest e1)
          | shorter z ez s ↦ items_early vs (w ∷ ws) b c x y m.front m.back n.front n.back z m.second m.octets n.octets ez s e2 (v ∷ vs)
          | longer z ez s ↦ flip (os ++ cs) (w ∷ ws) (v ∷ vs) c b (items_early ws (v ∷ vs) c b y x n.front n.back m.front m.back z n.second n.octets m.octets ez s (sym e2) (w ∷ ws))
        ]

    pub items_lawful : Lawful (Items S) os (os ++ cs) true
    items_lawful = record { opens = items_opens; aligned = items_aligned }

pub head_lawful : (head : TagHead) → Lawful (Head head) (lead_of head ∷ []) [] false
head_lawful head = record {
  opens = λ u b h. inr (subst (BeginsIn (lead_of head ∷ [])) (append-nil b) (head_begins head b [] h));
  aligned = λ u v b c x y h k e. same refl (heads_end head head b c x y h k e).0;
}

-- what begins with a head and ends itself
pub leaf_lawful : {V : Type 0} (S : V → List ℕ → Type 0) (os : List Lead) → ((v : V) (b : List ℕ) → S v b → BeginsIn os b) → EndsItself S → Lawful S os [] false
leaf_lawful S os begins ends = record {
  opens = λ v b s. inr (begins v b s);
  aligned = λ v w b c x y s t e. (let r = ends v w b c x y s t e in same r.1 r.0);
}

-- a production of another type, seen through an injection
pub through_lawful : {V W : Type 0} (S : V → List ℕ → Type 0) (os cs : List Lead) (e : Bool) (L : Lawful S os cs e) (f : W → V) (injective : (v w : W) → f v ≡ f w → v ≡ w)
    → Lawful (λ w. S (f w)) os cs e
through_lawful S os cs e L f injective = record {
  opens = λ w b s. L.opens (f w) b s;
  aligned = λ v w b c x y s t h. elim (L.aligned (f v) (f w) b c x y s t h) [
    | same p q ↦ same (injective v w p) q
    | shorter z r s ↦ shorter z r s
    | longer z r s ↦ longer z r s
  ];
}

module _ {V : Type 0} (S : V → List ℕ → Type 0) (os cs : List Lead) (n : ℕ) where
  grouped_by : (e : Bool) → Lawful S os cs e → IsTrue (disjoint (closing n ∷ []) cs) → Lawful (Joined (Head (Open n)) (Joined S (Head (Close n)))) (opening n ∷ []) [] false
  grouped_by true L apart = both_lawful (Head (Open n)) (Joined S (Head (Close n))) (opening n ∷ []) [] (and_where true os (closing n ∷ [])) [] false false (head_lawful (Open n))
      (both_lawful S (Head (Close n)) os cs (closing n ∷ []) [] true false L (head_lawful (Close n)) apart) (disjoint_nil (and_where true os (closing n ∷ [])))
  grouped_by false L apart = both_lawful (Head (Open n)) (Joined S (Head (Close n))) (opening n ∷ []) [] (and_where false os (closing n ∷ [])) [] false false (head_lawful (Open n))
      (both_lawful S (Head (Close n)) os cs (closing n ∷ []) [] false false L (head_lawful (Close n)) apart) (disjoint_nil (and_where false os (closing n ∷ [])))

  pub grouped_lawful : (e : Bool) → Lawful S os cs e → IsTrue (disjoint (closing n ∷ []) cs) → Lawful (Grouped n S) (opening n ∷ []) [] false
  grouped_lawful e L apart =
      let u : Unit {0} = tt in
      through_lawful (Joined (Head (Open n)) (Joined S (Head (Close n)))) (opening n ∷ []) [] false (grouped_by e L apart) (λ (v : V). (u, (v, u))) (λ v w p. ap (λ (q : Unit {0} × (V × Unit {0})). q.1.0) p)

module _ {V W : Type 0} (S : V → List ℕ → Type 0) (T : W → List ℕ → Type 0) (os cs ot ct : List Lead) (LS : Lawful S os cs false) (LT : Lawful T ot ct false) (apart : IsTrue (disjoint os ot)) where
  one_opens : (o : V ⊎ W) (b : List ℕ) → OneOf S T o b → ((b ≡ []) × IsTrue false) ⊎ BeginsIn (os ++ ot) b
  one_opens (inl v) b s = inr (begins_first true os ot b (begun S os cs LS v b s))
  one_opens (inr w) b t = inr (begins_also true os ot b refl (begun T ot ct LT w b t))

  pub one_never : (v : V) (w : W) (b c x y : List ℕ) → S v b → T w c → b ++ x ≡ c ++ y → ⊥
  one_never v w b c x y s t e =
      let left : BeginsIn os (c ++ y) = subst (λ (l : List ℕ). BeginsIn os l) e (begins_more os b x (begun S os cs LS v b s)) in
      begins_apart os ot (c ++ y) apart left (begins_more ot c y (begun T ot ct LT w c t))

  one_aligned : (o p : V ⊎ W) (b c x y : List ℕ) → OneOf S T o b → OneOf S T p c → b ++ x ≡ c ++ y → Aligned (cs ++ ct) o p b c
  one_aligned (inl v) (inl w) b c x y s t e = elim (LS.aligned v w b c x y s t e) [
    | same p q ↦ same (ap inl p) q
    | shorter z r h ↦ shorter z r (begins_first true cs ct z h)
    | longer z r h ↦ longer z r (begins_first true cs ct z h)
  ]
  one_aligned (inr v) (inr w) b c x y s t e = elim (LT.aligned v w b c x y s t e) [
    | same p q ↦ same (ap inr p) q
    | shorter z r h ↦ shorter z r (begins_also true cs ct z refl h)
    | longer z r h ↦ longer z r (begins_also true cs ct z refl h)
  ]
  one_aligned (inl v) (inr w) b c x y s t e = absurd (one_never v w b c x y s t e)
  one_aligned (inr w) (inl v) b c x y t s e = absurd (one_never v w c b y x s t (sym e))

  pub one_lawful : Lawful (OneOf S T) (os ++ ot) (cs ++ ct) false
  one_lawful = record { opens = one_opens; aligned = one_aligned }

-- no list spells two values
pub unique : {V : Type 0} (S : V → List ℕ → Type 0) (os cs : List Lead) (e : Bool) → Lawful S os cs e → (v w : V) (b : List ℕ) → S v b → S w b → v ≡ w
unique S os cs e L v w b s t = elim (L.aligned v w b b [] [] s t refl) [
  | same p q ↦ p
  | shorter z r h ↦ absurd (begins_not_nil cs (subst (λ (l : List ℕ). BeginsIn cs l) (sym (append_cancel_left b [] z (append-nil b ∙ r))) h))
  | longer z r h ↦ absurd (begins_not_nil cs (subst (λ (l : List ℕ). BeginsIn cs l) (sym (append_cancel_left b [] z (append-nil b ∙ r))) h))
]

-- the parts of a sound pair
pub sound_parts : (a b d : Bool) → IsTrue (a && (b && d)) → IsTrue a × IsTrue b × IsTrue d
sound_parts a b d h =
    let p = and_parts a (b && d) h in
    let q = and_parts b d p.1 in
    (p.0, q.0, q.1)

pub pair_lawful : {V W : Type 0} {S : V → List ℕ → Type 0} {T : W → List ℕ → Type 0} {os cs ot ct : List Lead} {es et : Bool} (a b : Bool)
    → (IsTrue a → Lawful S os cs es) → (IsTrue b → Lawful T ot ct et) → IsTrue (a && (b && disjoint ot cs)) → Lawful (Joined S T) (and_where es os ot) (and_where et ct cs) (es && et)
pair_lawful {S} {T} {os} {cs} {ot} {ct} {es} {et} a b LS LT h =
    let p = sound_parts a b (disjoint ot cs) h in
    both_lawful S T os cs ot ct es et (LS p.0) (LT p.1) p.2

false_from_not : (e : Bool) → IsTrue (not e) → e ≡ false
false_from_not e h = not-true e h

-- the laws of what may not be empty
pub not_empty : {V : Type 0} {S : V → List ℕ → Type 0} {os cs : List Lead} {e : Bool} → Lawful S os cs e → IsTrue (not e) → Lawful S os cs false
not_empty {S} {os} {cs} {e} L h = subst (λ (x : Bool). Lawful S os cs x) (false_from_not e h) L

pub option_lawful : {V : Type 0} {S : V → List ℕ → Type 0} {os cs : List Lead} {e : Bool} (a : Bool) → (IsTrue a → Lawful S os cs e) → IsTrue (a && not e) → Lawful (Optional S) os (os ++ cs) true
option_lawful {S} {os} {cs} {e} a L h = let p = and_parts a (not e) h in optional_lawful S os cs (not_empty (L p.0) p.1)

pub list_lawful : {V : Type 0} {S : V → List ℕ → Type 0} {os cs : List Lead} {e : Bool} (a : Bool) → (IsTrue a → Lawful S os cs e) → IsTrue (a && (not e && disjoint os cs)) → Lawful (Items S) os (os ++ cs) true
list_lawful {S} {os} {cs} {e} a L h =
    let p = sound_parts a (not e) (disjoint os cs) h in
    items_lawful S os cs (not_empty (L p.0) p.1) p.2

pub group_lawful_sound : {V : Type 0} {S : V → List ℕ → Type 0} {os cs : List Lead} {e : Bool} (n : ℕ) (a : Bool) → (IsTrue a → Lawful S os cs e) → IsTrue (nat_le n 254 && (a && disjoint (closing n ∷ []) cs)) → Lawful (Grouped n S) (opening n ∷ []) [] false
group_lawful_sound {S} {os} {cs} {e} n a L h =
    let p = sound_parts (nat_le n 254) a (disjoint (closing n ∷ []) cs) h in
    grouped_lawful S os cs n e (L p.1) p.2

pub record_lawful : {V W : Type 0} {S : W → List ℕ → Type 0} {T : V → List ℕ → Type 0} {os cs : List Lead} {e : Bool} → IsRecordOf S T → Lawful S os cs e → Lawful T os cs e
record_lawful {S} {T} {os} {cs} {e} R L = record {
  opens = λ v b s. L.opens (R.fields v) b (R.split v b s);
  aligned = λ v w b c x y s t h. elim (L.aligned (R.fields v) (R.fields w) b c x y (R.split v b s) (R.split w c t) h) [
    | same p q ↦ same (sym (R.same v) ∙ ap R.of_fields p ∙ R.same w) q
    | shorter z r k ↦ shorter z r k
    | longer z r k ↦ longer z r k
  ];
}
