-- Cutting, piece by piece.
use Rattle.std.specs.Prelude.{Some, None}
use Rattle.std.proofs.Common.{cond, eqb, ltb, ◌||◌}
use Rattle.std.proofs.lemmas.Bool.{ne_eqb, le-ltb, cases_lt}
use Rattle.bac_segment.specs.declared.cutting.CutFault.TheVariants.{Size, Window, TooLong, TooMany}
use Rattle.std.proofs.Common.{◌≡◌, ◌⊎◌, inl, inr, ◌+◌, ◌*◌, ◌≤◌, ◌<◌, ℕ, zero, suc, Bool, true, false, List, [], ◌∷◌, ◌++◌, length, take, drop, ◌↔◌, refl, sym, ap, ◌∙◌, subst, arith, append_assoc}
use Rattle.std.proofs.lemmas.List.{append-nil, length-append, take-append-drop, take_at, drop_at, length-drop, length-take-le}
use native.Mathlib.Nat.{suc-mul}
use Rattle.bac_segment.specs.declared.cutting.CutPlan.{CutPlan}
use Rattle.bac_segment.specs.Deliveries.{Delivery}
use Rattle.bac_segment.specs.Pieces.{all_of, are_more, AreEven, ArePieces, segments_from, IsCutOf, cut_fault}

-- whatever pieces the rest has, they end the segments so far
abbrev pub CutSoFar : CutPlan → List ℕ → List Delivery → ℕ → List ℕ → Type 0
CutSoFar plan s ds q rest = (ps : List (List ℕ)) → ArePieces rest plan.size ps → IsCutOf plan s (ds ++ segments_from plan q ps)

piece_before : (n : ℕ) (piece others : List ℕ) (ps : List (List ℕ)) → length piece ≡ n → 0 < length others → ArePieces others n ps → ArePieces (piece ++ others) n (piece ∷ ps) × (are_more ps ≡ true)
piece_before n piece others [] l o (e, inl i) = absurd (let j : (let x : List (List ℕ) = [] in x) ≡ [] ∷ [] = i in cc)
piece_before n piece others [] l o (e, inr i) = absurd i
piece_before n piece others (p ∷ ps) l o (e, inr i) = ((ap (λ (t : List ℕ). piece ++ t) e, inr (l, i)), refl)
piece_before n piece others (p ∷ ps) l o (e, inl i) = absurd (let k : length others ≡ 0 = ap (λ (t : List ℕ). length t) (sym e ∙ ap all_of i) in omega (arith, k))

pub cut_more : (plan : CutPlan) (s : List ℕ) (ds new : List Delivery) (d : Delivery) (q : ℕ) (piece others rest : List ℕ) → CutSoFar plan s ds q rest → rest ≡ piece ++ others → length piece ≡ plan.size → 0 < length others → d ≡ record { head = plan.head; window = plan.window; choice = plan.choice; seq = q; more = true; piece = piece } → new ≡ ds ++ d ∷ [] → CutSoFar plan s new (q + 1) others
cut_more plan s ds new d q piece others rest so split l o is eq ps h =
    let b = piece_before plan.size piece others ps l o h in
    let c = so (piece ∷ ps) (subst (λ (t : List ℕ). ArePieces t plan.size (piece ∷ ps)) (sym split) b.0) in
    let first = ap (λ (m : Bool). ds ++ (let x : Delivery = record { head = plan.head; window = plan.window; choice = plan.choice; seq = q; more = m; piece = piece } in x) ∷ segments_from plan (q + 1) ps) b.1 in
    let all : new ++ segments_from plan (q + 1) ps ≡ ds ++ segments_from plan q (piece ∷ ps) =
    ap (λ (t : List Delivery). t ++ segments_from plan (q + 1) ps) (eq ∙ ap (λ (x : Delivery). ds ++ x ∷ []) is) ∙ append_assoc ds _ (segments_from plan (q + 1) ps) ∙ sym first
    in
    subst (λ (t : List Delivery). IsCutOf plan s t) (sym all) c

last_piece : (n : ℕ) (rest : List ℕ) → length rest ≤ n → ArePieces rest n (rest ∷ [])
last_piece n [] l = (refl, inl refl)
last_piece n (x ∷ xs) l = (append-nil (x ∷ xs), inr (omega arith, l))

pub cut_last : (plan : CutPlan) (s : List ℕ) (ds new : List Delivery) (d : Delivery) (q : ℕ) (rest : List ℕ) → CutSoFar plan s ds q rest → length rest ≤ plan.size → d ≡ record { head = plan.head; window = plan.window; choice = plan.choice; seq = q; more = false; piece = rest } → new ≡ ds ++ d ∷ [] → IsCutOf plan s new
cut_last plan s ds new d q rest so l is eq = subst (λ (t : List Delivery). IsCutOf plan s t) (sym (eq ∙ ap (λ (x : Delivery). ds ++ x ∷ []) is)) (so (rest ∷ []) (last_piece plan.size rest l))

-- ---- why it is not cut

fault_after : (size window len : ℕ) → (size ≡ 0 → ⊥) → (window ≡ 0 → ⊥) → window ≤ 127 → len ≤ 65535 → (b : Bool) → ltb (256 * size) len ≡ b → (cond (eqb size 0) (Some Size) (cond (eqb window 0 || ltb 127 window) (Some Window) (cond (ltb 65535 len) (Some TooLong) (cond (ltb (256 * size) len) (Some TooMany) None)))) ≡ cond b (Some TooMany) None
fault_after size window len s w v l b h =
    ap (λ (x : Bool). cond x (Some Size) (cond (eqb window 0 || ltb 127 window) (Some Window) (cond (ltb 65535 len) (Some TooLong) (cond (ltb (256 * size) len) (Some TooMany) None)))) (ne_eqb size 0 s)
    ∙ ap (λ (x : Bool). cond (x || ltb 127 window) (Some Window) (cond (ltb 65535 len) (Some TooLong) (cond (ltb (256 * size) len) (Some TooMany) None))) (ne_eqb window 0 w)
    ∙ ap (λ (x : Bool). cond x (Some Window) (cond (ltb 65535 len) (Some TooLong) (cond (ltb (256 * size) len) (Some TooMany) None))) (le-ltb 127 window v)
    ∙ ap (λ (x : Bool). cond x (Some TooLong) (cond (ltb (256 * size) len) (Some TooMany) None)) (le-ltb 65535 len l)
    ∙ ap (λ (x : Bool). cond x (Some TooMany) None) h

pub no_fault : (plan : CutPlan) (s : List ℕ) → (plan.size ≡ 0 → ⊥) → (plan.window ≡ 0 → ⊥) → plan.window ≤ 127 → length s ≤ 65535 → length s ≤ 256 * plan.size → cut_fault plan s ≡ None
no_fault plan s a b d l h = fault_after plan.size plan.window (length s) a b d l false (le-ltb (256 * plan.size) (length s) h)

-- ---- a message has one list of pieces

same_front : (n : ℕ) (p q a b : List ℕ) → length p ≡ n → length q ≡ n → p ++ a ≡ q ++ b → (p ≡ q) × (a ≡ b)
same_front n p q a b l k h = (
  sym (take_at p a n l) ∙ ap (λ (o : List ℕ). take n o) h ∙ take_at q b n k,
  sym (drop_at p a n l) ∙ ap (λ (o : List ℕ). drop n o) h ∙ drop_at q b n k,
)

some_octets : (n : ℕ) (ps : List (List ℕ)) → AreEven n ps → 0 < length (all_of ps)
some_octets n [] e = absurd e
some_octets n (p ∷ []) e = omega (arith, e.0, length-append p [])
some_octets n (p ∷ q ∷ ps) e = omega (arith, some_octets n (q ∷ ps) e.1, length-append p (all_of (q ∷ ps)))

even_once : (n : ℕ) (ps qs : List (List ℕ)) → AreEven n ps → AreEven n qs → all_of ps ≡ all_of qs → ps ≡ qs
even_once n [] qs e f h = absurd e
even_once n (p ∷ []) [] e f h = absurd f
even_once n (p ∷ q ∷ ps) [] e f h = absurd f
even_once n (p ∷ []) (q ∷ []) e f h = ap (λ (x : List ℕ). x ∷ []) (sym (append-nil p) ∙ h ∙ append-nil q)
even_once n (p ∷ []) (q ∷ r ∷ qs) e f h = absurd (omega (arith, e.1, f.0, some_octets n (r ∷ qs) f.1, length-append p [], length-append q (all_of (r ∷ qs)), ap (λ (o : List ℕ). length o) h))
even_once n (p ∷ r ∷ ps) (q ∷ []) e f h = absurd (omega (arith, f.1, e.0, some_octets n (r ∷ ps) e.1, length-append q [], length-append p (all_of (r ∷ ps)), ap (λ (o : List ℕ). length o) h))
even_once n (p ∷ r ∷ ps) (q ∷ t ∷ qs) e f h =
    let parts = same_front n p q (all_of (r ∷ ps)) (all_of (t ∷ qs)) e.0 f.0 h in
    ap (λ (x : List ℕ). x ∷ r ∷ ps) parts.0 ∙ ap (λ (xs : List (List ℕ)). q ∷ xs) (even_once n (r ∷ ps) (t ∷ qs) e.1 f.1 parts.1)

not_empty : {P : Type 0} (n : ℕ) (s : List ℕ) (ps qs : List (List ℕ)) → all_of ps ≡ s → all_of qs ≡ s → ps ≡ [] ∷ [] → AreEven n qs → P
not_empty n s ps qs a b e f =
    let k : length (all_of qs) ≡ 0 = ap (λ (o : List ℕ). length o) (b ∙ sym a ∙ ap all_of e) in absurd (omega (arith, k, some_octets n qs f))

pub one_list : (s : List ℕ) (n : ℕ) (ps qs : List (List ℕ)) → ArePieces s n ps → ArePieces s n qs → ps ≡ qs
one_list s n ps qs (a, inl e) (b, inl f) = e ∙ sym f
one_list s n ps qs (a, inl e) (b, inr f) = not_empty n s ps qs a b e f
one_list s n ps qs (a, inr e) (b, inl f) = not_empty n s qs ps b a f e
one_list s n ps qs (a, inr e) (b, inr f) = even_once n ps qs e f (a ∙ sym b)

-- ---- and it has one, where a piece may have octets

one_more : (n : ℕ) (s : List ℕ) (ps : List (List ℕ)) → n < length s → AreEven n ps → all_of ps ≡ drop n s → (qs : List (List ℕ)) × AreEven n qs × (all_of qs ≡ s)
one_more n s [] l e h = absurd e
one_more n s (q ∷ ps) l e h = (take n s ∷ q ∷ ps, (length-take-le n s (omega (arith, l)), e), ap (λ (o : List ℕ). take n s ++ o) h ∙ take-append-drop n s)

made : (fuel n : ℕ) (s : List ℕ) → 1 ≤ n → 0 < length s → length s ≤ fuel → (ps : List (List ℕ)) × AreEven n ps × (all_of ps ≡ s)
made zero n s one some f = absurd (omega (arith, some, f))
made (suc fuel) n s one some f = by_length (cases_lt n (length s)) (λ l. made fuel n (drop n s) one (omega (arith, l, length-drop n s)) (omega (arith, l, f, one, length-drop n s)))
  where
    by_length : (n < length s) ⊎ (length s ≤ n) → (n < length s → (ps : List (List ℕ)) × AreEven n ps × (all_of ps ≡ drop n s)) → (ps : List (List ℕ)) × AreEven n ps × (all_of ps ≡ s)
    by_length (inl l) rec = let r = rec l in one_more n s r.0 l r.1 r.2
    by_length (inr l) rec = (s ∷ [], (some, l), append-nil s)

pub some_list : (s : List ℕ) (n : ℕ) → 1 ≤ n → (ps : List (List ℕ)) × ArePieces s n ps
some_list [] n one = ([] ∷ [], (refl, inl refl))
some_list (x ∷ xs) n one = let r = made (length (x ∷ xs)) n (x ∷ xs) one (omega arith) (omega arith) in (r.0, (r.2, inr r.1))

-- ---- how many pieces there are

-- few octets have few pieces
pub few : (n k : ℕ) (ps : List (List ℕ)) → AreEven n ps → length (all_of ps) ≤ k * n → length ps ≤ k
few n k [] e l = absurd e
few n zero (p ∷ []) e l = absurd (omega (arith, e.0, l, length-append p []))
few n (suc k) (p ∷ []) e l = omega arith
few n zero (p ∷ q ∷ ps) e l = let r = few n zero (q ∷ ps) e.1 (omega (arith, l, length-append p (all_of (q ∷ ps)))) in absurd (omega (arith, r))
few n (suc k) (p ∷ q ∷ ps) e l = let r = few n k (q ∷ ps) e.1 (omega (arith, l, e.0, suc-mul k n, length-append p (all_of (q ∷ ps)))) in omega (arith, r)

-- and few pieces have few octets
fits : (n k : ℕ) (ps : List (List ℕ)) → AreEven n ps → length ps ≤ k → length (all_of ps) ≤ k * n
fits n k [] e l = absurd e
fits n zero (p ∷ ps) e l = absurd (omega (arith, l))
fits n (suc k) (p ∷ []) e l = omega (arith, e.1, suc-mul k n, length-append p [])
fits n (suc k) (p ∷ q ∷ ps) e l = omega (arith, fits n k (q ∷ ps) e.1 (omega (arith, l)), e.0, suc-mul k n, length-append p (all_of (q ∷ ps)))

pub many_pieces : (s : List ℕ) (n : ℕ) (ps : List (List ℕ)) → ArePieces s n ps → (256 * n < length s) ↔ (256 < length ps)
many_pieces s n ps (a, inl e) =
    let none : length s ≡ 0 = ap (λ (o : List ℕ). length o) (sym a ∙ ap all_of e) in
    let one : length ps ≡ 1 = ap (λ xs. length xs) e in
    (λ h. absurd (omega (arith, none, h)), λ h. absurd (omega (arith, one, h)))
many_pieces s n ps (a, inr e) =
    let same : length (all_of ps) ≡ length s = ap (λ (o : List ℕ). length o) a in (
      λ h. more (cases_lt 256 (length ps)) (λ l. omega (arith, h, same, fits n 256 ps e l)),
      λ h. more (cases_lt (256 * n) (length s)) (λ l. omega (arith, h, few n 256 ps e (omega (arith, same, l)))),
    )
  where
    more : {a b : ℕ} → (a < b) ⊎ (b ≤ a) → (b ≤ a → ⊥) → a < b
    more (inl l) f = l
    more (inr l) f = absurd (f l)
