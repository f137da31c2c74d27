-- The segments of a cut are joined to what was cut.
use Rattle.std.specs.Prelude.{Some, None}
use Rattle.std.proofs.Common.{◌≡◌, ◌↔◌, ◌⊎◌, inl, inr, ◌+◌, ◌*◌, ◌≤◌, ◌<◌, ℕ, zero, suc, Bool, true, false, cond, eqb, ltb, ◌||◌, Option, Ok, Err, List, [], ◌∷◌, ◌++◌, length, refl, sym, ap, ◌∙◌, subst, arith, add-zero, zero-add}
use Rattle.std.specs.List.{AllByRecursion}
use Rattle.std.proofs.lemmas.Bool.{eqb-true, eq-eqb, ltb-false}
use Rattle.std.proofs.lemmas.Grind.{fold-append}
use Rattle.bac_segment.specs.declared.keys.Key.{Key}
use Rattle.bac_segment.specs.declared.cutting.CutPlan.{CutPlan}
use Rattle.bac_segment.specs.declared.cutting.CutFault.{CutFault}
use Rattle.bac_segment.specs.declared.cutting.CutFault.TheVariants.{Size, Window, TooLong, TooMany}
use Rattle.bac_segment.specs.declared.faults.Taken.TheVariants.{Complete}
use Rattle.bac_segment.specs.Deliveries.{Delivery, key_of}
use Rattle.bac_segment.specs.Tables.{Table, empty_table, whole}
use Rattle.bac_segment.specs.Taking.{Answer, counts, answer, with_next, held}
use Rattle.bac_segment.specs.Pieces.{ArePieces, segments_from, IsCutOf, cut_fault}
use Rattle.bac_segment.specs.Cuts.{IsOneOf, AreAmong, AreOf, IsGood}
use Rattle.bac_segment.specs.Reassembled.{Reassembled, opened}
use Rattle.bac_segment.specs.Histories.{Delivers, counted}
use Rattle.bac_segment.proofs.PieceLemmas.{few}
use Rattle.bac_segment.proofs.CutLemmas.{IsPiece, ArePiecesOf, IsCut, has_number, HasAll, cut_held, cut_answer}
use Rattle.bac_segment.proofs.HistoryLemmas.{Stepped, stepped, counted_held}
use Rattle.bac_segment.proofs.JudgeLemmas.{completes}

few_pieces : (s : List ℕ) (n : ℕ) (ps : List (List ℕ)) → ArePieces s n ps → length s ≤ 256 * n → (length ps ≤ 256) × (0 < length ps)
few_pieces s n ps (e, inl i) l = let k : length ps ≡ 1 = ap (λ xs. length xs) i in (omega (arith, k), omega (arith, k))
few_pieces s n [] (e, inr i) l = absurd i
few_pieces s n (p ∷ ps) (e, inr i) l = (few n 256 (p ∷ ps) i (omega (arith, l, ap (λ xs. length xs) e)), omega arith)

-- what a message keeps to that is cut
limits : (size window len : ℕ) (a b d e : Bool) → eqb size 0 ≡ a → (eqb window 0 || ltb 127 window) ≡ b → ltb 65535 len ≡ d → ltb (256 * size) len ≡ e → (let f : Option CutFault = cond a (Some Size) (cond b (Some Window) (cond d (Some TooLong) (cond e (Some TooMany) None))) in f) ≡ None → (len ≤ 65535) × (len ≤ 256 * size)
limits size window len true b d e i j k l h = absurd (let x : Some Size ≡ None = h in cc)
limits size window len false true d e i j k l h = absurd (let x : Some Window ≡ None = h in cc)
limits size window len false false true e i j k l h = absurd (let x : Some TooLong ≡ None = h in cc)
limits size window len false false false true i j k l h = absurd (let x : Some TooMany ≡ None = h in cc)
limits size window len false false false false i j k l h = (ltb-false 65535 len k, ltb-false (256 * size) len l)

is_piece : (plan : CutPlan) (q : ℕ) (ps : List (List ℕ)) (d : Delivery) → IsOneOf (segments_from plan q ps) d → (k : ℕ) × (d.seq ≡ q + k) × IsPiece ps k d.piece d.more
is_piece plan q [] d h = absurd h
is_piece plan q (p ∷ ps) d (inl i) = (0, ap (λ (x : Delivery). x.seq) i ∙ sym (add-zero q), (ap (λ (x : Delivery). x.piece) i, ap (λ (x : Delivery). x.more) i))
is_piece plan q (p ∷ ps) d (inr h) = let r = is_piece plan (q + 1) ps d h in (suc r.0, omega (arith, r.1), r.2)

one_piece : (plan : CutPlan) (ps : List (List ℕ)) (s : Delivery) → IsOneOf (segments_from plan 0 ps) s → IsPiece ps s.seq s.piece s.more
one_piece plan ps s h = let r = is_piece plan 0 ps s h in subst (λ (q : ℕ). IsPiece ps q s.piece s.more) (sym (r.1 ∙ zero-add r.0)) r.2

are_pieces : (plan : CutPlan) (ps : List (List ℕ)) (l : List Delivery) → AreAmong (segments_from plan 0 ps) l → ArePiecesOf ps l
are_pieces plan ps [] h = tt
are_pieces plan ps (s ∷ l) h = (one_piece plan ps s h.0, are_pieces plan ps l h.1)

-- each segment of the cut has its number there
abbrev AreThere : List Delivery → List Delivery → Type 0
AreThere segments l = AllByRecursion (λ d. has_number l d.seq ≡ true) segments

there_all : (plan : CutPlan) (l : List Delivery) (q : ℕ) (ps : List (List ℕ)) → AreThere (segments_from plan q ps) l → (k : ℕ) → k < length ps → has_number l (q + k) ≡ true
there_all plan l q [] h k b = absurd (omega arith)
there_all plan l q (p ∷ ps) h zero b = ap (λ (n : ℕ). has_number l n) (add-zero q) ∙ h.0
there_all plan l q (p ∷ ps) h (suc k) b = let e : q + suc k ≡ q + 1 + k = omega arith in ap (λ (n : ℕ). has_number l n) e ∙ there_all plan l (q + 1) ps h.1 k (omega arith)

all_there : (plan : CutPlan) (l : List Delivery) (q : ℕ) (ps : List (List ℕ)) → ((k : ℕ) → k < length ps → has_number l (q + k) ≡ true) → AreThere (segments_from plan q ps) l
all_there plan l q [] h = tt
all_there plan l q (p ∷ ps) h = (
  ap (λ (n : ℕ). has_number l n) (sym (add-zero q)) ∙ h 0 (omega arith),
  all_there plan l (q + 1) ps (λ k b. let e : q + 1 + k ≡ q + suc k = omega arith in ap (λ (n : ℕ). has_number l n) e ∙ h (suc k) (omega arith)),
)

-- ---- a number is there exactly where its segment is

same_number : (plan : CutPlan) (q : ℕ) (ps : List (List ℕ)) (a b : Delivery) → IsOneOf (segments_from plan q ps) a → IsOneOf (segments_from plan q ps) b → a.seq ≡ b.seq → a ≡ b
same_number plan q [] a b h i e = absurd h
same_number plan q (p ∷ ps) a b (inl h) (inl i) e = h ∙ sym i
same_number plan q (p ∷ ps) a b (inl h) (inr i) e = let r = is_piece plan (q + 1) ps b i in absurd (omega (arith, e, r.1, ap (λ (d : Delivery). d.seq) h))
same_number plan q (p ∷ ps) a b (inr h) (inl i) e = let r = is_piece plan (q + 1) ps a h in absurd (omega (arith, e, r.1, ap (λ (d : Delivery). d.seq) i))
same_number plan q (p ∷ ps) a b (inr h) (inr i) e = same_number plan (q + 1) ps a b h i e

one_there : (segments l : List Delivery) (q : ℕ) → AreAmong segments l → has_number l q ≡ true → (s : Delivery) × IsOneOf l s × IsOneOf segments s × (s.seq ≡ q)
one_there segments [] q a h = absurd (let i : false ≡ true = h in cc)
one_there segments (x ∷ l) q a h = by_number (eqb x.seq q) refl h (λ i. one_there segments l q a.1 i)
  where
    by_number : (b : Bool) → eqb x.seq q ≡ b → (b || has_number l q) ≡ true → (has_number l q ≡ true → (s : Delivery) × IsOneOf l s × IsOneOf segments s × (s.seq ≡ q)) → (s : Delivery) × IsOneOf (x ∷ l) s × IsOneOf segments s × (s.seq ≡ q)
    by_number true e i rec = (x, inl refl, a.0, eqb-true x.seq q e)
    by_number false e i rec = let r = rec i in (r.0, inr r.1, r.2, r.3)

number_there : (l : List Delivery) (s : Delivery) → IsOneOf l s → has_number l s.seq ≡ true
number_there [] s h = absurd h
number_there (x ∷ l) s (inl h) = ap (λ (b : Bool). b || has_number l s.seq) (eq-eqb x.seq s.seq (ap (λ (d : Delivery). d.seq) (sym h)))
number_there (x ∷ l) s (inr h) = by_number (eqb x.seq s.seq) (number_there l s h)
  where
    by_number : (b : Bool) → has_number l s.seq ≡ true → (b || has_number l s.seq) ≡ true
    by_number true i = refl
    by_number false i = i

pub numbers_there : (these l : List Delivery) → AreAmong l these → AreThere these l
numbers_there [] l h = tt
numbers_there (s ∷ these) l h = (number_there l s h.0, numbers_there these l h.1)

among_self : (plan : CutPlan) (ps : List (List ℕ)) (l these : List Delivery) → AreAmong (segments_from plan 0 ps) l → AreAmong (segments_from plan 0 ps) these → AreThere these l → AreAmong l these
among_self plan ps l [] a b h = tt
among_self plan ps l (s ∷ these) a b h =
    let r = one_there (segments_from plan 0 ps) l s.seq a h.0 in
    (subst (λ (d : Delivery). IsOneOf l d) (same_number plan 0 ps r.0 s r.2 b.0 r.3) r.1, among_self plan ps l these a b.1 h.1)

among_more : (these more l : List Delivery) → ((s : Delivery) → IsOneOf these s → IsOneOf more s) → AreAmong these l → AreAmong more l
among_more these more [] f h = tt
among_more these more (s ∷ l) f h = (f s h.0, among_more these more l f h.1)

among_refl : (l : List Delivery) → AreAmong l l
among_refl [] = tt
among_refl (s ∷ l) = (inl refl, among_more l (s ∷ l) l (λ d h. inr h) (among_refl l))

-- ---- a cut, joined

is_cut : (plan : CutPlan) (octets : List ℕ) (ps : List (List ℕ)) → cut_fault plan octets ≡ None → ArePieces octets plan.size ps → IsCut ps
is_cut plan octets ps fine pieces =
    let l = limits plan.size plan.window (length octets) _ _ _ _ refl refl refl refl fine in
    let n = few_pieces octets plan.size ps pieces l.1 in
    record { some = n.1; numbers = n.0; octets = omega (arith, l.0, ap (λ (o : List ℕ). length o) pieces.0) }

from_pieces : (plan : CutPlan) (octets : List ℕ) (ps : List (List ℕ)) (l : List Delivery) → cut_fault plan octets ≡ None → ArePieces octets plan.size ps → AreAmong (segments_from plan 0 ps) l → ((whole (held l) ≡ Some octets) ↔ AreAmong l (segments_from plan 0 ps)) × ((whole (held l) ≡ Some octets) ⊎ (whole (held l) ≡ None))
from_pieces plan octets ps l fine pieces among =
    let t = cut_held ps l (is_cut plan octets ps fine pieces) (are_pieces plan ps l among) in
    let u = subst (λ (o : List ℕ). ((whole (held l) ≡ Some o) ↔ HasAll ps l) × ((whole (held l) ≡ Some o) ⊎ (whole (held l) ≡ None))) pieces.0 t in (
      (
        λ w. among_self plan ps l (segments_from plan 0 ps) among (among_refl (segments_from plan 0 ps)) (all_there plan l 0 ps (λ k b. ap (λ (n : ℕ). has_number l n) (zero-add k) ∙ u.0.0 w k b)),
        λ all. u.0.1 (λ k b. ap (λ (n : ℕ). has_number l n) (sym (zero-add k)) ∙ there_all plan l 0 ps (numbers_there (segments_from plan 0 ps) l all) k b),
      ),
      u.1,
    )

pub cut_gives : (plan : CutPlan) (octets : List ℕ) (segments l : List Delivery) → cut_fault plan octets ≡ None → IsCutOf plan octets segments → AreAmong segments l → ((whole (held l) ≡ Some octets) ↔ AreAmong l segments) × ((whole (held l) ≡ Some octets) ⊎ (whole (held l) ≡ None))
cut_gives plan octets segments l fine cut among =
    subst (λ (ds : List Delivery). ((whole (held l) ≡ Some octets) ↔ AreAmong l ds) × ((whole (held l) ≡ Some octets) ⊎ (whole (held l) ≡ None))) (sym cut.2)
    (from_pieces plan octets cut.0 l fine cut.1 (subst (λ (ds : List Delivery). AreAmong ds l) cut.2 among))

pub cut_answered : (plan : CutPlan) (octets : List ℕ) (segments l : List Delivery) (s : Delivery) → cut_fault plan octets ≡ None → IsCutOf plan octets segments → AreAmong segments l → IsOneOf segments s → IsGood (answer (held l) s)
cut_answered plan octets segments l s fine cut among one =
    cut_answer cut.0 l s (is_cut plan octets cut.0 fine cut.1) (are_pieces plan cut.0 l (subst (λ (ds : List Delivery). AreAmong ds l) cut.2 among)) (one_piece plan cut.0 s (subst (λ (ds : List Delivery). IsOneOf ds s) cut.2 one))

-- ---- over the calls of a reassembly

good_other : (a : Answer) → counts a ≡ false → IsGood a
good_other (Ok t) h = tt
good_other (Err f) h = h

pub good_by : (a b : Answer) → IsGood b → (counts a ≡ true → a ≡ b) → IsGood a
good_by a b g f = by_count (counts a) refl
  where
    by_count : (x : Bool) → counts a ≡ x → IsGood a
    by_count true e = subst IsGood (sym (f e)) g
    by_count false e = good_other a e

-- what counts is of the key
among_counted : (segments : List Delivery) (old new : Reassembled) (calls : List (Delivery × Answer)) → AreOf old.key segments calls → Delivers old calls new → AreAmong segments (counted calls)
among_counted segments old new [] of h = tt
among_counted segments old new (call ∷ calls) of h =
    let st = stepped old call.0 call.1 h.0 h.1 in
    by_count (counts call.1) refl st.of_key (among_counted segments h.0 new calls (subst (λ (k : Key). AreOf k segments calls) (sym st.key) of.1) h.2)
  where
    by_count : (b : Bool) → counts call.1 ≡ b → (counts call.1 ≡ true → key_of old.key.peer call.0 ≡ old.key) → AreAmong segments (counted calls) → AreAmong segments (cond b (call.0 ∷ counted calls) (counted calls))
    by_count true e k rest = (of.0 (k e), rest)
    by_count false e k rest = rest

pub among_append : (segments l : List Delivery) (s : Delivery) → AreAmong segments l → IsOneOf segments s → AreAmong segments (l ++ s ∷ [])
among_append segments [] s a b = (b, tt)
among_append segments (x ∷ l) s a b = (a.0, among_append segments l s a.1 b)

pub held_more : (l : List Delivery) (s : Delivery) → held (l ++ s ∷ []) ≡ with_next (held l) s
held_more l s = fold-append with_next empty_table l (s ∷ [])

all_good : (plan : CutPlan) (octets : List ℕ) (segments l : List Delivery) (old new : Reassembled) (calls : List (Delivery × Answer)) → cut_fault plan octets ≡ None → IsCutOf plan octets segments → AreAmong segments l → old.table ≡ held l → AreOf old.key segments calls → Delivers old calls new → AllByRecursion (λ c. IsGood c.1) calls
all_good plan octets segments l old new [] fine cut among is of h = tt
all_good plan octets segments l old new (call ∷ calls) fine cut among is of h =
    let st = stepped old call.0 call.1 h.0 h.1 in
    let rest = subst (λ (k : Key). AreOf k segments calls) (sym st.key) of.1 in
    by_count (counts call.1) refl st (λ more a e. all_good plan octets segments more h.0 new calls fine cut a e rest h.2)
  where
    by_count : (b : Bool) → counts call.1 ≡ b → Stepped old call.0 call.1 h.0 → ((more : List Delivery) → AreAmong segments more → h.0.table ≡ held more → AllByRecursion (λ c. IsGood c.1) calls) → AllByRecursion (λ c. IsGood c.1) (call ∷ calls)
    by_count true e st rec =
        let one = of.0 (st.of_key e) in (
          subst IsGood (sym (st.is_answer.by_table e ∙ ap (λ (m : Table). answer m call.0) is)) (cut_answered plan octets segments l call.0 fine cut among one),
          rec (l ++ call.0 ∷ []) (among_append segments l call.0 among one) (st.table ∙ ap (λ (x : Bool). cond x (with_next old.table call.0) old.table) e ∙ ap (λ (m : Table). with_next m call.0) is ∙ sym (held_more l call.0)),
        )
    by_count false e st rec = (good_other call.1 e, rec l among (st.table ∙ ap (λ (x : Bool). cond x (with_next old.table call.0) old.table) e ∙ is))

pub cut_joined : (plan : CutPlan) (octets : List ℕ) (segments : List Delivery) (key : Key) (calls : List (Delivery × Answer)) (r : Reassembled) → cut_fault plan octets ≡ None → IsCutOf plan octets segments → AreOf key segments calls → Delivers (opened key) calls r → ((whole r.table ≡ Some octets) ↔ AreAmong (counted calls) segments) × ((whole r.table ≡ Some octets) ⊎ (whole r.table ≡ None))
cut_joined plan octets segments key calls r fine cut of h =
    subst (λ (m : Table). ((whole m ≡ Some octets) ↔ AreAmong (counted calls) segments) × ((whole m ≡ Some octets) ⊎ (whole m ≡ None))) (sym (counted_held (opened key) r calls h).1)
    (cut_gives plan octets segments (counted calls) fine cut (among_counted segments (opened key) r calls of h))

pub cut_all_good : (plan : CutPlan) (octets : List ℕ) (segments : List Delivery) (key : Key) (calls : List (Delivery × Answer)) (r : Reassembled) → cut_fault plan octets ≡ None → IsCutOf plan octets segments → AreOf key segments calls → Delivers (opened key) calls r → AllByRecursion (λ c. IsGood c.1) calls
cut_all_good plan octets segments key calls r fine cut of h = all_good plan octets segments [] (opened key) r calls fine cut tt refl of h

-- ---- the last segment of a cut

pub cut_completed : (plan : CutPlan) (octets : List ℕ) (segments l : List Delivery) (s : Delivery) → cut_fault plan octets ≡ None → IsCutOf plan octets segments → AreAmong segments l → IsOneOf segments s
    → AreAmong (l ++ s ∷ []) segments → (AreAmong l segments → ⊥) → answer (held l) s ≡ Ok Complete
cut_completed plan octets segments l s fine cut among one all missing =
    let now = (cut_gives plan octets segments (l ++ s ∷ []) fine cut (among_append segments l s among one)).0.1 all in
    completes (held l) s (ap whole (sym (held_more l s)) ∙ now) (λ w. missing ((cut_gives plan octets segments l fine cut among).0.0 w))
