-- The longest front of an input that spells a value, part by part.
use Rattle.std.specs.Prelude.{◌≡◌, ℕ, ◌+◌, ◌≤◌, ◌<◌, List, [], ◌∷◌, ◌++◌, length, take, drop, Bool, true, false, ◌&&◌, not, ◌⊎◌, IsTrue, refl}
use Rattle.std.proofs.Common.{suc, zero, sym, ◌∙◌, ap, subst, inl, inr, arith, append_assoc}
use Rattle.std.proofs.lemmas.List.{append_cancel_left, append-nil, take-append-drop, length-append, length-drop, length-take-le, drop-take, take-take, drop-drop}
use Rattle.std.proofs.lemmas.Bool.{and_parts}
use Rattle.bac_tag.specs.Spelling.{NoFront, EndsItself, OneOf, Takes, Joined}
use Rattle.bac_productions.specs.Leads.{Lead, disjoint, BeginsIn}
use Rattle.bac_productions.specs.Laws.Lead.{begins_apart, begins_more, begins_not_nil}
use Rattle.bac_productions.specs.Productions.{Items, Aligned, Lawful, IsLongest}
use Rattle.bac_productions.specs.Productions.Aligned.{same, shorter, longer}
use Rattle.bac_productions.specs.Laws.Production.{begun, sound_parts, items_lawful, not_empty, one_never, one_lawful}

no_length : (l : List ℕ) → length l ≡ 0 → l ≡ []
no_length [] e = refl
no_length (x ∷ xs) e = absurd (omega arith)

pub take_add : (n m : ℕ) (l : List ℕ) → n ≤ length l → take (n + m) l ≡ take n l ++ take m (drop n l)
take_add n m l h =
    let e1 = take-append-drop n (take (n + m) l) in
    let e2 = take-take n (n + m) l (omega arith) in
    let e3 = drop-take n m l in
    sym e1 ∙ rw (e2, e3) refl

module _ {V W : Type 0} (S : V → List ℕ → Type 0) (T : W → List ℕ → Type 0) (os cs ot ct : List Lead) (es et : Bool) (LS : Lawful S os cs es) (LT : Lawful T ot ct et) (apart : IsTrue (disjoint ot cs)) (input : List ℕ) (v : V) (n : ℕ) (L : IsLongest S input v n) where
  -- where a front of both parts stands beside the longest front of the first
  front_cases : (p : V) (q : W) (f b y : List ℕ) → S p f → T q b → input ≡ f ++ (b ++ y) → ((b ≡ []) × IsTrue et) ⊎ BeginsIn ot b → Aligned cs v p (take n input) f
      → ((drop n input ≡ b ++ y) × (length f ≡ n)) ⊎ ((b ≡ []) × (length f ≤ n))
  front_cases p q f b y s t e o (same ev ef) =
      let lf : length (take n input) ≡ n = length-take-le n input L.within in
      let e1 : take n input ++ drop n input ≡ take n input ++ (b ++ y) = take-append-drop n input ∙ e ∙ ap (λ (l : List ℕ). l ++ (b ++ y)) (sym ef) in
      inl (append_cancel_left (take n input) (drop n input) (b ++ y) e1, sym (ap length ef) ∙ lf)
  front_cases p q f b y s t e o (shorter z ez h) =
      let lf : length (take n input) ≡ n = length-take-le n input L.within in
      let most : length f ≤ n = L.most p f (b ++ y) e s in
      let le : length f ≡ length (take n input) + length z = ap length ez ∙ length-append (take n input) z in
      absurd (begins_not_nil cs (subst (λ (l : List ℕ). BeginsIn cs l) (no_length z (omega arith)) h))
  front_cases p q f b y s t e (inl o) (longer z ez h) =
      let lf : length (take n input) ≡ n = length-take-le n input L.within in
      let le : length (take n input) ≡ length f + length z = ap length ez ∙ length-append f z in
      inr (o.0, omega arith)
  front_cases p q f b y s t e (inr o) (longer z ez h) =
      let e1 : f ++ (z ++ drop n input) ≡ f ++ (b ++ y) = sym (append_assoc f z (drop n input)) ∙ ap (λ (l : List ℕ). l ++ drop n input) (sym ez) ∙ take-append-drop n input ∙ e in
      let e2 : z ++ drop n input ≡ b ++ y = append_cancel_left f (z ++ drop n input) (b ++ y) e1 in
      absurd (begins_apart ot cs (b ++ y) apart (begins_more ot b y o) (subst (λ (l : List ℕ). BeginsIn cs l) e2 (begins_more cs z (drop n input) h)))

  pub front_of_both : (p : V) (q : W) (f b y : List ℕ) → S p f → T q b → input ≡ f ++ (b ++ y)
      → ((drop n input ≡ b ++ y) × (length f ≡ n)) ⊎ ((b ≡ []) × (length f ≤ n))
  front_of_both p q f b y s t e = front_cases p q f b y s t e (LT.opens q b t) (LS.aligned v p (take n input) f (drop n input) (b ++ y) L.spelled s (take-append-drop n input ∙ e))

  pub longest_both : (w : W) (m : ℕ) → IsLongest T (drop n input) w m → IsLongest (Joined S T) input (v, w) (n + m)
  longest_both w m M = record {
    within = let h : m ≤ length (drop n input) = M.within in let k : n ≤ length input = L.within in omega (arith, length-drop n input);
    spelled = record { front = take n input; back = take m (drop n input); first = L.spelled; second = M.spelled; octets = take_add n m input L.within };
    most = λ q c y e j.
        let e1 : input ≡ j.front ++ (j.back ++ y) = e ∙ ap (λ (l : List ℕ). l ++ y) j.octets ∙ append_assoc j.front j.back y in
        let lc : length c ≡ length j.front + length j.back = ap length j.octets ∙ length-append j.front j.back in
        elim (front_of_both q.0 q.1 j.front j.back y j.first j.second e1) [
          | inl h ↦ let k : length j.back ≤ m = M.most q.1 j.back y h.0 j.second in let i : length j.front ≡ n = h.1 in omega arith
          | inr h ↦ let k : length j.back ≡ 0 = ap length h.0 in let i : length j.front ≤ n = h.1 in omega arith
        ];
  }

  pub none_second : NoFront T (drop n input) → NoFront (Joined S T) input
  none_second none q c y e j =
      let e1 : input ≡ j.front ++ (j.back ++ y) = e ∙ ap (λ (l : List ℕ). l ++ y) j.octets ∙ append_assoc j.front j.back y in
      elim (front_of_both q.0 q.1 j.front j.back y j.first j.second e1) [
        | inl h ↦ none q.1 j.back y h.0 j.second
        | inr h ↦ none q.1 [] (drop n input) refl (subst (λ (l : List ℕ). T q.1 l) h.0 j.second)
      ]

pub none_first : {V W : Type 0} (S : V → List ℕ → Type 0) (T : W → List ℕ → Type 0) (input : List ℕ) → NoFront S input → NoFront (Joined S T) input
none_first S T input none q c y e j = none q.0 j.front (j.back ++ y) (e ∙ ap (λ (l : List ℕ). l ++ y) j.octets ∙ append_assoc j.front j.back y) j.first

pub pair_found : {V W : Type 0} {S : V → List ℕ → Type 0} {T : W → List ℕ → Type 0} {os cs ot ct : List Lead} {es et : Bool} (a b : Bool)
    → (IsTrue a → Lawful S os cs es) → (IsTrue b → Lawful T ot ct et) → IsTrue (a && (b && disjoint ot cs))
    → {input : List ℕ} {v : V} {n : ℕ} {w : W} {m : ℕ} → IsLongest S input v n → IsLongest T (drop n input) w m → IsLongest (Joined S T) input (v, w) (n + m)
pair_found {S} {T} {os} {cs} {ot} {ct} {es} {et} a b LS LT h {input} {v} {n} {w} {m} L M =
    let p = sound_parts a b (disjoint ot cs) h in
    longest_both S T os cs ot ct es et (LS p.0) (LT p.1) p.2 input v n L w m M

pub pair_none : {V W : Type 0} {S : V → List ℕ → Type 0} {T : W → List ℕ → Type 0} {os cs ot ct : List Lead} {es et : Bool} (a b : Bool)
    → (IsTrue a → Lawful S os cs es) → (IsTrue b → Lawful T ot ct et) → IsTrue (a && (b && disjoint ot cs))
    → {input : List ℕ} {v : V} {n : ℕ} → IsLongest S input v n → NoFront T (drop n input) → NoFront (Joined S T) input
pair_none {S} {T} {os} {cs} {ot} {ct} {es} {et} a b LS LT h {input} {v} {n} L none =
    let p = sound_parts a b (disjoint ot cs) h in
    none_second S T os cs ot ct es et (LS p.0) (LT p.1) p.2 input v n L none

-- two parts, each at its front
pub takes_both : {V W : Type 0} {S : V → List ℕ → Type 0} {T : W → List ℕ → Type 0} {input : List ℕ} {v : V} {n : ℕ} {w : W} {m : ℕ} → Takes S input (v, n) → Takes T (drop n input) (w, m) → Takes (Joined S T) input ((v, w), n + m)
takes_both {input = input} {n = n} {m = m} L M = record {
  within = let h : m ≤ length (drop n input) = M.within in let k : n ≤ length input = L.within in omega (arith, length-drop n input);
  spelled = record { front = take n input; back = take m (drop n input); first = L.spelled; second = M.spelled; octets = take_add n m input L.within };
}

-- what may not be empty takes some octets
pub some_spelled : {V : Type 0} (S : V → List ℕ → Type 0) (os cs : List Lead) → Lawful S os cs false → (input : List ℕ) (v : V) (n : ℕ) → S v (take n input) → 0 < n
some_spelled S os cs L input v zero s = absurd (begins_not_nil os (begun S os cs L v [] s))
some_spelled S os cs L input v (suc n) s = omega arith

pub some_taken : {V : Type 0} (S : V → List ℕ → Type 0) (os cs : List Lead) → Lawful S os cs false → (input : List ℕ) (v : V) (n : ℕ) → IsLongest S input v n → 0 < n
some_taken S os cs L input v n M = some_spelled S os cs L input v n M.spelled

-- the items so far, and where each front goes on after them
pub record IsSoFar {V : Type 0} (S : V → List ℕ → Type 0) (input : List ℕ) (vs : List V) (p : ℕ) : Type 0 where
  pub within : p ≤ length input
  pub spelled : Items S vs (take p input)
  pub ahead : (ws : List V) (c y : List ℕ) → Items S ws c → input ≡ c ++ y
      → (length c ≤ p) ⊎ ((rest : List V) × (d : List ℕ) × Items S rest d × (drop p input ≡ d ++ y) × (length c ≡ p + length d))

pub items_snoc : {V : Type 0} (S : V → List ℕ → Type 0) (vs : List V) (v : V) (b c : List ℕ) → Items S vs b → S v c → Items S (vs ++ v ∷ []) (b ++ c)
items_snoc S [] v b c e s = record { front = c; back = []; first = s; second = refl; octets = ap (λ (l : List ℕ). l ++ c) e ∙ sym (append-nil c) }
items_snoc S (w ∷ vs) v b c m s = record { front = m.front; back = m.back ++ c; first = m.first; second = items_snoc S vs v m.back c m.second s; octets = ap (λ (l : List ℕ). l ++ c) m.octets ∙ append_assoc m.front m.back c }

pub so_far_start : {V : Type 0} (S : V → List ℕ → Type 0) (input : List ℕ) → IsSoFar S input [] 0
so_far_start S input = record { within = omega arith; spelled = refl; ahead = λ ws c y s e. inr (ws, c, s, e, omega arith) }

pub so_far_end : {V : Type 0} (S : V → List ℕ → Type 0) (input : List ℕ) (vs : List V) (p : ℕ) → IsSoFar S input vs p → NoFront S (drop p input) → IsLongest (Items S) input vs p
so_far_end {V} S input vs p F none = record { within = F.within; spelled = F.spelled; most = λ ws c y e s. elim (F.ahead ws c y s e) [ inl h ↦ h | inr r ↦ ended r.0 r.1 c y r.2 r.3 r.4 ] }
  where
    ended : (rest : List V) (d c y : List ℕ) → Items S rest d → drop p input ≡ d ++ y → length c ≡ p + length d → length c ≤ p
    ended [] d c y s e l = let k : length d ≡ 0 = ap length s in omega arith
    ended (w ∷ ws) d c y m e l = absurd (none w m.front (m.back ++ y) (e ∙ ap (λ (l : List ℕ). l ++ y) m.octets ∙ append_assoc m.front m.back y) m.first)

pub so_far_more : {V : Type 0} (S : V → List ℕ → Type 0) (os cs : List Lead) → Lawful S os cs false → IsTrue (disjoint os cs)
    → (input : List ℕ) (vs : List V) (p : ℕ) (v : V) (n : ℕ) → IsSoFar S input vs p → IsLongest S (drop p input) v n → IsSoFar S input (vs ++ v ∷ []) (p + n)
so_far_more {V} S os cs L apart input vs p v n F M = record {
  within = let h : n ≤ length (drop p input) = M.within in let k : p ≤ length input = F.within in omega (arith, length-drop p input);
  spelled = subst (λ (l : List ℕ). Items S (vs ++ v ∷ []) l) (sym (take_add p n input F.within)) (items_snoc S vs v (take p input) (take n (drop p input)) F.spelled M.spelled);
  ahead = λ ws c y s e. elim (F.ahead ws c y s e) [ inl h ↦ inl (omega arith) | inr r ↦ on r.0 r.1 c y r.2 r.3 r.4 ];
}
  where
    on : (rest : List V) (d c y : List ℕ) → Items S rest d → drop p input ≡ d ++ y → length c ≡ p + length d
        → (length c ≤ p + n) ⊎ ((rest : List V) × (d : List ℕ) × Items S rest d × (drop (p + n) input ≡ d ++ y) × (length c ≡ (p + n) + length d))
    on [] d c y s e l = let k : length d ≡ 0 = ap length s in inl (omega arith)
    on (w ∷ ws) d c y m e l =
        let e1 : drop p input ≡ m.front ++ (m.back ++ y) = e ∙ ap (λ (l : List ℕ). l ++ y) m.octets ∙ append_assoc m.front m.back y in
        let ld : length d ≡ length m.front + length m.back = ap length m.octets ∙ length-append m.front m.back in
        elim (front_of_both S (Items S) os cs os (os ++ cs) false true L (items_lawful S os cs L apart) apart (drop p input) v n M w ws m.front m.back y m.first m.second e1) [
          | inl h ↦ let i : length m.front ≡ n = h.1 in inr (ws, m.back, m.second, sym (drop-drop n p input) ∙ h.0, omega arith)
          | inr h ↦ let k : length m.back ≡ 0 = ap length h.0 in let i : length m.front ≤ n = h.1 in inl (omega arith)
        ]

pub list_more : {V : Type 0} {S : V → List ℕ → Type 0} {os cs : List Lead} {e : Bool} (a : Bool) → (IsTrue a → Lawful S os cs e) → IsTrue (a && (not e && disjoint os cs))
    → {input : List ℕ} {vs : List V} {p : ℕ} {v : V} {n : ℕ} → IsSoFar S input vs p → IsLongest S (drop p input) v n → IsSoFar S input (vs ++ v ∷ []) (p + n)
list_more {S} {os} {cs} {e} a law h {input} {vs} {p} {v} {n} F M =
    let q = sound_parts a (not e) (disjoint os cs) h in
    so_far_more S os cs (not_empty (law q.0) q.1) q.2 input vs p v n F M

module _ {V W : Type 0} {S : V → List ℕ → Type 0} {T : W → List ℕ → Type 0} {os cs ot ct : List Lead} {es et : Bool} (a b : Bool) (ls : IsTrue a → Lawful S os cs es) (lt : IsTrue b → Lawful T ot ct et) (h : IsTrue ((a && not es) && ((b && not et) && disjoint os ot))) where
  pub either_first : {input : List ℕ} {v : V} {n : ℕ} → IsLongest S input v n → IsLongest (OneOf S T) input (inl v) n
  either_first {input} {v} {n} L =
      let p = sound_parts (a && not es) (b && not et) (disjoint os ot) h in
      let x = and_parts a (not es) p.0 in
      let y = and_parts b (not et) p.1 in
      let never : (w : W) (c y : List ℕ) → T w c → input ≡ c ++ y → ⊥ =
      λ w c z t e. one_never S T os cs ot ct (not_empty (ls x.0) x.1) (not_empty (lt y.0) y.1) p.2 v w (take n input) c (drop n input) z L.spelled t (take-append-drop n input ∙ e) in
      record { within = L.within; spelled = L.spelled; most = elim [ inl w ↦ λ c z e s. L.most w c z e s | inr w ↦ λ c z e s. absurd (never w c z s e) ] }

  pub either_lawful : Lawful (OneOf S T) (os ++ ot) (cs ++ ct) false
  either_lawful =
      let p = sound_parts (a && not es) (b && not et) (disjoint os ot) h in
      let x = and_parts a (not es) p.0 in
      let y = and_parts b (not et) p.1 in
      one_lawful S T os cs ot ct (not_empty (ls x.0) x.1) (not_empty (lt y.0) y.1) p.2

-- what ends itself has no longer front
pub leaf_longest : {V : Type 0} (S : V → List ℕ → Type 0) → EndsItself S → (input : List ℕ) (v : V) (n : ℕ) → Takes S input (v, n) → IsLongest S input v n
leaf_longest S ends input v n t = record {
  within = t.within;
  spelled = t.spelled;
  most = λ w c y e s. (let r = ends v w (take n input) c (drop n input) y t.spelled s (take-append-drop n input ∙ e) in omega (arith, ap length r.0, length-take-le n input t.within));
}

-- the same of another type: the value of one is spelled as that of the other
pub longest_alike : {V W : Type 0} (S : V → List ℕ → Type 0) (T : W → List ℕ → Type 0) (input : List ℕ) (v : V) (w : W) (n : ℕ)
    → ((b : List ℕ) → S v b → T w b) → ((x : W) (b : List ℕ) → T x b → (y : V) × S y b) → IsLongest S input v n → IsLongest T input w n
longest_alike S T input v w n to from L = record {
  within = L.within;
  spelled = to (take n input) L.spelled;
  most = λ x c y e t. (let s = from x c t in L.most s.0 c y e s.1);
}
