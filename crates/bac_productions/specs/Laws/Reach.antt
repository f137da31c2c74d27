-- How far an input begins a spelling, part by part.
use Rattle.std.specs.Prelude.{◌≡◌, ℕ, ◌+◌, ◌-◌, ◌≤◌, ◌<◌, List, [], ◌∷◌, ◌++◌, length, take, drop, ◌⊎◌, ◌&&◌, IsTrue, Bool, true, false, Option, Some, None, max, refl}
use Rattle.std.proofs.Common.{sym, ◌∙◌, ap, subst, inl, inr, arith, append_assoc}
use Rattle.std.proofs.lemmas.List.{append_cancel_left, append-nil, take-append-drop, length-append, length-drop, length-take-le, nil_from_length, drop-drop}
use Rattle.std.proofs.lemmas.Bool.{cases_lt}
use Rattle.bac_tag.specs.Spelling.{NoFront, IsViable, IsFurthest, Joined}
use Rattle.bac_tag.specs.Laws.Spelling.{viable_front}
use Rattle.bac_productions.specs.Leads.{Lead, disjoint, BeginsIn}
use Rattle.bac_productions.specs.Laws.Lead.{begins_apart, begins_more, begins_not_nil}
use Rattle.bac_productions.specs.Productions.{Optional, Items, Aligned, Lawful, IsInhabited, IsLongest}
use Rattle.bac_productions.specs.Productions.Aligned.{same, shorter, longer}
use Rattle.bac_productions.specs.Laws.Production.{sound_parts, items_lawful}
use Rattle.bac_productions.specs.Laws.Longest.{take_add, IsSoFar, items_snoc}

-- two ways to cut one list
pub cut : (q t f b : List ℕ) → q ++ t ≡ f ++ b → ((z : List ℕ) × (f ≡ q ++ z)) ⊎ ((z : List ℕ) × (q ≡ f ++ z) × (b ≡ z ++ t))
cut [] t f b e = inl (f, refl)
cut (x ∷ q) t [] b e = inr (x ∷ q, refl, sym e)
cut (x ∷ q) t (y ∷ f) b e =
    let e1 : x ≡ y = cc in
    let e2 : q ++ t ≡ f ++ b = cc in
    elim (cut q t f b e2) [
      | inl r ↦ let k : f ≡ q ++ r.0 = r.1 in inl (r.0, cc)
      | inr r ↦ let k : q ≡ f ++ r.0 = r.1 in inr (r.0, (cc), r.2)
    ]

module _ {V W : Type 0} (S : V → List ℕ → Type 0) (T : W → List ℕ → Type 0) where
  pub viable_first : (u : W) (c : List ℕ) → T u c → (q : List ℕ) → IsViable S q → IsViable (Joined S T) q
  viable_first u c t q h = record { value = (h.value, u); rest = h.rest ++ c; spelled = record { front = q ++ h.rest; back = c; first = h.spelled; second = t; octets = sym (append_assoc q h.rest c) } }

  pub viable_second : (v : V) (f q : List ℕ) → S v f → IsViable T q → IsViable (Joined S T) (f ++ q)
  viable_second v f q s h = record { value = (v, h.value); rest = h.rest; spelled = record { front = f; back = q ++ h.rest; first = s; second = h.spelled; octets = append_assoc f q h.rest } }

  -- viable for both parts joined: viable for the first, or a spelling of the first and then viable for the second
  pub viable_both : (q : List ℕ) → IsViable (Joined S T) q → IsViable S q ⊎ ((v : V) × (f z : List ℕ) × S v f × (q ≡ f ++ z) × IsViable T z)
  viable_both q h =
      let j = h.spelled in
      elim (cut q h.rest j.front j.back j.octets) [
        | inl r ↦ inl (record { value = h.value.0; rest = r.0; spelled = subst (λ (l : List ℕ). S h.value.0 l) r.1 j.first })
        | inr r ↦ inr (h.value.0, j.front, r.0, j.first, r.1, record { value = h.value.1; rest = h.rest; spelled = subst (λ (l : List ℕ). T h.value.1 l) r.2 j.second })
      ]

  -- the first part is refused: so are both, there
  pub furthest_first : (u : W) (c : List ℕ) → T u c → (input : List ℕ) (n : ℕ) → NoFront S input → IsFurthest S input n → IsFurthest (Joined S T) input n
  furthest_first u c t input n none F = record {
    within = F.within;
    begins = viable_first u c t (take n input) F.begins;
    ends = λ lt h. elim (viable_both (take (n + 1) input) h) [
      | inl k ↦ F.ends lt k
      | inr r ↦ none r.0 r.1 (r.2 ++ drop (n + 1) input) (sym (take-append-drop (n + 1) input) ∙ ap (λ (l : List ℕ). l ++ drop (n + 1) input) r.4 ∙ append_assoc r.1 r.2 (drop (n + 1) input)) r.3
    ];
  }

module _ {V W : Type 0} (S : V → List ℕ → Type 0) (T : W → List ℕ → Type 0) (os cs ot ct : List Lead) (es et : Bool) (LS : Lawful S os cs es) (LT : Lawful T ot ct et) (apart : IsTrue (disjoint ot cs)) (input : List ℕ) (v : V) (n : ℕ) (L : IsLongest S input v n) where
  pub reach_past : (a : ℕ) → IsFurthest S input a → n ≤ a
  reach_past a F = elim (cases_lt a n) [
    | inl lt ↦ absurd (F.ends (let h : n ≤ length input = L.within in omega arith) (viable_front S input (a + 1) n (omega arith) (record { value = v; rest = []; spelled = subst (λ (l : List ℕ). S v l) (sym (append-nil (take n input))) L.spelled })))
    | inr ge ↦ ge
  ]

  -- past the longest first part, a viable prefix goes on with the second part
  pub past_first : (k : ℕ) → n ≤ k → k ≤ length input → (p : V) (f z : List ℕ) → S p f → take k input ≡ f ++ z → IsViable T z → 0 < k - n → Aligned cs v p (take n input) f
      → IsViable T (take (k - n) (drop n input))
  past_first k le kl p f z s e h pos (same ev ef) =
      let e1 : take k input ≡ take n input ++ take (k - n) (drop n input) = ap (λ (i : ℕ). take i input) (omega arith) ∙ take_add n (k - n) input L.within in
      let e2 : take n input ++ take (k - n) (drop n input) ≡ take n input ++ z = sym e1 ∙ e ∙ ap (λ (l : List ℕ). l ++ z) (sym ef) in
      subst (λ (l : List ℕ). IsViable T l) (sym (append_cancel_left (take n input) (take (k - n) (drop n input)) z e2)) h
  past_first k le kl p f z s e h pos (shorter m em b) =
      let e1 : input ≡ f ++ (z ++ drop k input) = sym (take-append-drop k input) ∙ ap (λ (l : List ℕ). l ++ drop k input) e ∙ append_assoc f z (drop k input) in
      let most : length f ≤ n = L.most p f (z ++ drop k input) e1 s in
      let lf : length (take n input) ≡ n = length-take-le n input L.within in
      let le2 : length f ≡ length (take n input) + length m = ap length em ∙ length-append (take n input) m in
      let lm : length m ≡ 0 = omega arith in
      absurd (begins_not_nil cs (subst (λ (l : List ℕ). BeginsIn cs l) (nil_from_length m lm) b))
  past_first k le kl p f z s e h pos (longer m em b) =
      let e1 : take k input ≡ take n input ++ take (k - n) (drop n input) = ap (λ (i : ℕ). take i input) (omega arith) ∙ take_add n (k - n) input L.within in
      let e2 : f ++ (m ++ take (k - n) (drop n input)) ≡ f ++ z = sym (append_assoc f m (take (k - n) (drop n input))) ∙ ap (λ (l : List ℕ). l ++ take (k - n) (drop n input)) (sym em) ∙ sym e1 ∙ e in
      let e3 : z ≡ m ++ take (k - n) (drop n input) = sym (append_cancel_left f (m ++ take (k - n) (drop n input)) z e2) in
      let back : List ℕ = z ++ h.rest in
      let mb : BeginsIn cs back = subst (λ (l : List ℕ). BeginsIn cs (l ++ h.rest)) (sym e3) (begins_more cs (m ++ take (k - n) (drop n input)) h.rest (begins_more cs m (take (k - n) (drop n input)) b)) in
      elim (LT.opens h.value back h.spelled) [
        | inl o ↦ absurd (begins_not_nil cs (subst (λ (l : List ℕ). BeginsIn cs l) o.0 mb))
        | inr o ↦ absurd (begins_apart ot cs back apart o mb)
      ]

  pub furthest_both : (u : W) (c : List ℕ) → T u c → (a b : ℕ) → IsFurthest S input a → IsFurthest T (drop n input) b → IsFurthest (Joined S T) input (max a (n + b))
  furthest_both u c t a b F G =
      let na : n ≤ a = reach_past a F in
      let gw : b ≤ length (drop n input) = G.within in
      let fw : a ≤ length input = F.within in
      let lw : n ≤ length input = L.within in
      let ld = length-drop n input in
      let k = max a (n + b) in
      record {
        within = omega arith;
        begins = elim (cases_lt a (n + b)) [
          | inl lt ↦ subst (λ (l : List ℕ). IsViable (Joined S T) l) (sym (take_add n b input lw) ∙ ap (λ (i : ℕ). take i input) (omega arith)) (viable_second S T v (take n input) (take b (drop n input)) L.spelled G.begins)
          | inr ge ↦ subst (λ (i : ℕ). IsViable (Joined S T) (take i input)) (omega arith) (viable_first S T u c t (take a input) F.begins)
        ];
        ends = λ lt h. elim (viable_both S T (take (k + 1) input) h) [
          | inl s ↦ F.ends (omega arith) (viable_front S input (a + 1) (k + 1) (omega arith) s)
          | inr r ↦
              let e1 : input ≡ r.1 ++ (r.2 ++ drop (k + 1) input) = sym (take-append-drop (k + 1) input) ∙ ap (λ (l : List ℕ). l ++ drop (k + 1) input) r.4 ∙ append_assoc r.1 r.2 (drop (k + 1) input) in
              let al = LS.aligned v r.0 (take n input) r.1 (drop n input) (r.2 ++ drop (k + 1) input) L.spelled r.3 (take-append-drop n input ∙ e1) in
              let past : IsViable T (take ((k + 1) - n) (drop n input)) = past_first (k + 1) (omega arith) (omega arith) r.0 r.1 r.2 r.3 r.4 r.5 (omega arith) al in
              G.ends (omega arith) (viable_front T (drop n input) (b + 1) ((k + 1) - n) (omega arith) past)
        ];
      }

-- an optional part that is not there: as far as the part itself
pub furthest_absent : {V : Type 0} (S : V → List ℕ → Type 0) (input : List ℕ) (n : ℕ) → IsFurthest S input n → IsFurthest (Optional S) input n
furthest_absent S input n F = record {
  within = F.within;
  begins = record { value = Some F.begins.value; rest = F.begins.rest; spelled = F.begins.spelled };
  ends = λ lt h. go lt h.value h.rest h.spelled;
}
  where
    go : n < length input → (o : Option _) (rest : List ℕ) → Optional S o (take (n + 1) input ++ rest) → ⊥
    go lt None rest e =
        let l : length (take (n + 1) input) + length rest ≡ 0 = sym (length-append (take (n + 1) input) rest) ∙ ap length e in
        let m : length (take (n + 1) input) ≡ n + 1 = length-take-le (n + 1) input (omega arith) in
        absurd (omega arith)
    go lt (Some w) rest s = F.ends lt (record { value = w; rest = rest; spelled = s })

pub pair_inhabited : {V W : Type 0} {S : V → List ℕ → Type 0} {T : W → List ℕ → Type 0} → IsInhabited S → IsInhabited T → IsInhabited (Joined S T)
pair_inhabited A B = record { value = (A.value, B.value); octets = A.octets ++ B.octets; spelled = record { front = A.octets; back = B.octets; first = A.spelled; second = B.spelled; octets = refl } }

pub option_inhabited : {V : Type 0} (S : V → List ℕ → Type 0) → IsInhabited (Optional S)
option_inhabited S = record { value = None; octets = []; spelled = refl }

-- an optional part that is there: as far as the part itself
pub furthest_present : {V : Type 0} (S : V → List ℕ → Type 0) (input : List ℕ) (n : ℕ) → IsFurthest S input n → IsFurthest (Optional S) input n
furthest_present S input n F = furthest_absent S input n F

pub pair_reach : {V W : Type 0} {S : V → List ℕ → Type 0} {T : W → List ℕ → Type 0} {os cs ot ct : List Lead} {es et : Bool} (a b : Bool)
    → (IsTrue a → Lawful S os cs es) → (IsTrue b → Lawful T ot ct et) → IsTrue (a && (b && disjoint ot cs)) → IsInhabited T
    → {input : List ℕ} {v : V} {n i j : ℕ} → IsLongest S input v n → IsFurthest S input i → IsFurthest T (drop n input) j → IsFurthest (Joined S T) input (max i (n + j))
pair_reach {S} {T} {os} {cs} {ot} {ct} {es} {et} a b LS LT h I {input} {v} {n} {i} {j} L F G =
    let p = sound_parts a b (disjoint ot cs) h in
    furthest_both S T os cs ot ct es et (LS p.0) (LT p.1) p.2 input v n L I.value I.octets I.spelled i j F G

pub pair_first : {V W : Type 0} {S : V → List ℕ → Type 0} {T : W → List ℕ → Type 0} → IsInhabited T → {input : List ℕ} {n : ℕ} → NoFront S input → IsFurthest S input n → IsFurthest (Joined S T) input n
pair_first {S} {T} I {input} {n} none F = furthest_first S T I.value I.octets I.spelled input n none F

-- ---- lists

-- how far the items may go, while those of the first p octets are read
pub record IsReachSoFar {V : Type 0} (S : V → List ℕ → Type 0) (input : List ℕ) (p b : ℕ) : Type 0 where
  pub begun : p ≤ b
  pub within : b ≤ length input
  pub viable : IsViable (Items S) (take b input)
  pub ahead : (k : ℕ) → k ≤ length input → IsViable (Items S) (take k input) → (k ≤ b) ⊎ ((p ≤ k) × IsViable (Items S) (take (k - p) (drop p input)))

pub reach_start : {V : Type 0} (S : V → List ℕ → Type 0) (input : List ℕ) → IsReachSoFar S input 0 0
reach_start S input = record {
  begun = omega arith;
  within = omega arith;
  viable = record { value = []; rest = []; spelled = refl };
  ahead = λ k le h. inr (omega arith, subst (λ (i : ℕ). IsViable (Items S) (take i input)) (omega arith) h);
}

module _ {V : Type 0} (S : V → List ℕ → Type 0) (os cs : List Lead) (L : Lawful S os cs false) (apart : IsTrue (disjoint os cs)) (input : List ℕ) (vs : List V) (p b : ℕ) (F : IsSoFar S input vs p) (R : IsReachSoFar S input p b) (r : ℕ) (G : IsFurthest S (drop p input) r) where
  -- one more item may begin
  next_viable : IsViable (Items S) (take (max b (p + r)) input)
  next_viable =
      let pw : p ≤ length input = F.within in
      elim (cases_lt b (p + r)) [
        | inl lt ↦
            let g = G.begins in
            let e : take (max b (p + r)) input ≡ take p input ++ take r (drop p input) = ap (λ (i : ℕ). take i input) (omega arith) ∙ take_add p r input pw in
            record {
              value = vs ++ g.value ∷ [];
              rest = g.rest;
              spelled = subst (λ (l : List ℕ). Items S (vs ++ g.value ∷ []) l) (sym (ap (λ (l : List ℕ). l ++ g.rest) e ∙ append_assoc (take p input) (take r (drop p input)) g.rest)) (items_snoc S vs g.value (take p input) (take r (drop p input) ++ g.rest) F.spelled g.spelled);
            }
        | inr ge ↦ subst (λ (i : ℕ). IsViable (Items S) (take i input)) (omega arith) R.viable
      ]

  next_within : max b (p + r) ≤ length input
  next_within = let g : r ≤ length (drop p input) = G.within in let h : b ≤ length input = R.within in let k : p ≤ length input = F.within in omega (arith, length-drop p input)

  -- past the item's reach, a viable prefix begins with a whole item
  whole_item : (k : ℕ) → p + r < k → k ≤ length input → (ws : List V) (rest : List ℕ) → Items S ws (take (k - p) (drop p input) ++ rest)
      → (w : V) × (front z : List ℕ) × S w front × (take (k - p) (drop p input) ≡ front ++ z) × IsViable (Items S) z
  whole_item k lt le [] rest e =
      let l : length (take (k - p) (drop p input)) + length rest ≡ 0 = sym (length-append (take (k - p) (drop p input)) rest) ∙ ap length e in
      let m : length (take (k - p) (drop p input)) ≡ k - p = length-take-le (k - p) (drop p input) (omega (arith, length-drop p input)) in
      absurd (omega arith)
  whole_item k lt le (w ∷ ws) rest j = elim (cut (take (k - p) (drop p input)) rest j.front j.back j.octets) [
    | inl c ↦
        let v : IsViable S (take (k - p) (drop p input)) = record { value = w; rest = c.0; spelled = subst (λ (l : List ℕ). S w l) c.1 j.first } in
        let ld = length-drop p input in
        absurd (G.ends (omega arith) (viable_front S (drop p input) (r + 1) (k - p) (omega arith) v))
    | inr c ↦ (w, j.front, c.0, j.first, c.1, record { value = ws; rest = rest; spelled = subst (λ (l : List ℕ). Items S ws l) c.2 j.second })
  ]

  pub reach_end : NoFront S (drop p input) → IsFurthest (Items S) input (max b (p + r))
  reach_end none = record {
    within = next_within;
    begins = next_viable;
    ends = λ lt h. elim (R.ahead (max b (p + r) + 1) (omega arith) h) [
      | inl le ↦ omega arith
      | inr a ↦
          let k = max b (p + r) + 1 in
          let q = whole_item k (omega arith) (omega arith) a.1.value a.1.rest a.1.spelled in
          none q.0 q.1 (q.2 ++ drop (k - p) (drop p input)) (sym (take-append-drop (k - p) (drop p input)) ∙ ap (λ (l : List ℕ). l ++ drop (k - p) (drop p input)) q.4 ∙ append_assoc q.1 q.2 (drop (k - p) (drop p input))) q.3
    ];
  }

  pub reach_more : (v : V) (n : ℕ) → IsLongest S (drop p input) v n → IsReachSoFar S input (p + n) (max b (p + r))
  reach_more v n M =
      let nr : n ≤ r = reach_past S (Items S) os cs os (os ++ cs) false true L (items_lawful S os cs L apart) apart (drop p input) v n M r G in
      record {
        begun = omega arith;
        within = next_within;
        viable = next_viable;
        ahead = λ k le h. elim (cases_lt (p + r) k) [
          | inr ge ↦ inl (omega arith)
          | inl lt ↦ elim (R.ahead k le h) [
            | inl small ↦ inl (omega arith)
            | inr a ↦
                let q = whole_item k lt le a.1.value a.1.rest a.1.spelled in
                let ld = length-drop p input in
                let e1 : drop p input ≡ q.1 ++ (q.2 ++ drop (k - p) (drop p input)) = sym (take-append-drop (k - p) (drop p input)) ∙ ap (λ (l : List ℕ). l ++ drop (k - p) (drop p input)) q.4 ∙ append_assoc q.1 q.2 (drop (k - p) (drop p input)) in
                let al = L.aligned v q.0 (take n (drop p input)) q.1 (drop n (drop p input)) (q.2 ++ drop (k - p) (drop p input)) M.spelled q.3 (take-append-drop n (drop p input) ∙ e1) in
                let past : IsViable (Items S) (take ((k - p) - n) (drop n (drop p input))) =
                past_first S (Items S) os cs os (os ++ cs) false true L (items_lawful S os cs L apart) apart (drop p input) v n M (k - p) (omega arith) (omega arith) q.0 q.1 q.2 q.3 q.4 q.5 (omega arith) al in
                let moved : IsViable (Items S) (take ((k - p) - n) (drop (p + n) input)) = subst (λ (l : List ℕ). IsViable (Items S) (take ((k - p) - n) l)) (drop-drop n p input) past in
                inr (omega arith, subst (λ (i : ℕ). IsViable (Items S) (take i (drop (p + n) input))) (omega arith) moved)
          ]
        ];
      }
