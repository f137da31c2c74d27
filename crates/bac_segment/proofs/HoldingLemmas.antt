-- Octets and spans, and the table that they stand for.
use Rattle.std.proofs.Common.{◌≡◌, ◌⊎◌, inl, inr, ltb, leb, max, ℕ, ◌+◌, ◌-◌, ◌≤◌, ◌<◌, zero, suc, Bool, true, false, cond, Option, Some, None, List, [], ◌∷◌, ◌++◌, length, take, drop, set, get_or, refl, sym, ap, ◌∙◌, subst, arith, ◌||◌, ◌&&◌, not, zero-add, add-one, eqb, replicate}
use Rattle.std.specs.Prelude.{MatchBool, is_some, is_none, sum_by, slice_range}
use Rattle.std.specs.Option.{option_map}
use Rattle.std.specs.List.{list_any}
use Rattle.std.proofs.lemmas.List.{append_assoc, length-append, length-set, take_at, drop_at, append-nil, length-map, take-append-drop, length-replicate, get_or_default}
use Rattle.std.proofs.lemmas.Bool.{leb-true, ltb-true, ltb-false, lt-ltb, le-ltb, le-leb, eq-eqb, ne_eqb, cases_eq}
use Rattle.std.proofs.lemmas.List.Sums.{sum_by-cons}
use Rattle.bac_segment.specs.declared.holding.Span.{Span}
use Rattle.bac_segment.specs.declared.holding.Held.{Held}
use Rattle.std.proofs.Common.{Result, Ok, Err}
use Rattle.std.specs.Prelude.{OnOk, is_err}
use Rattle.bac_tag.specs.declared.refusals.OutOfMemory.{OutOfMemory}
use Rattle.std.specs.Str.{bytes_eq}
use Rattle.bac_segment.specs.declared.faults.TakeFault.{TakeFault}
use Rattle.bac_segment.specs.Deliveries.{Delivery}
use Rattle.bac_segment.specs.Taking.{Judges, same_entry, same_more, entry_at, is_held_above, is_ended_below, has_room, may_add}
use Rattle.bac_segment.specs.Tables.{Entry, Table, joined, is_last, whole, with_segment, empty_table}
use Rattle.bac_segment.specs.Holding.{span_of, spans_of, span_len, table_of, count_of, end_of, Holds, EndsAtLast, IsHeld, table_in}

-- a table is what its octets and spans stand for
pub table_back : (m : Table) → table_of (joined m) (spans_of m) ≡ m
table_back [] = refl
table_back (None ∷ m) = ap (λ (t : Table). None ∷ t) (table_back m)
table_back (Some e ∷ m) =
    let first = take_at e.piece (joined m) (length e.piece) refl in
    let rest = drop_at e.piece (joined m) (length e.piece) refl in
    ap (λ (p : List ℕ). Some (record { piece = p; more = e.more }) ∷ table_of (drop (length e.piece) (e.piece ++ joined m)) (spans_of m)) first
    ∙ ap (λ (o : List ℕ). Some e ∷ table_of o (spans_of m)) rest
    ∙ ap (λ (t : Table). Some e ∷ t) (table_back m)

-- how many octets stand before a number
pub sum-spans : (n : ℕ) (m : Table) → sum_by span_len (take n (spans_of m)) ≡ length (joined (take n m))
sum-spans zero m = refl
sum-spans (suc n) [] = refl
sum-spans (suc n) (None ∷ m) = sum_by-cons span_len None (take n (spans_of m)) ∙ zero-add (sum_by span_len (take n (spans_of m))) ∙ sum-spans n m
sum-spans (suc n) (Some e ∷ m) = sum_by-cons span_len (Some (span_of e)) (take n (spans_of m)) ∙ ap (λ (k : ℕ). length e.piece + k) (sum-spans n m) ∙ sym (length-append e.piece (joined (take n m)))

pub joined-split : (n : ℕ) (m : Table) → joined m ≡ joined (take n m) ++ joined (drop n m)
joined-split zero m = refl
joined-split (suc n) [] = refl
joined-split (suc n) (None ∷ m) = joined-split n m
joined-split (suc n) (Some e ∷ m) = ap (λ (o : List ℕ). e.piece ++ o) (joined-split n m) ∙ sym (append_assoc e.piece (joined (take n m)) (joined (drop n m)))

pub entry-spans : (n : ℕ) (m : Table) → get_or (spans_of m) n None ≡ option_map span_of (get_or m n None)
entry-spans n [] = refl
entry-spans zero (x ∷ m) = refl
entry-spans (suc n) (x ∷ m) = entry-spans n m

-- what is held under a number stands at its place
pub piece_at : (n : ℕ) (m : Table) (e : Entry) → get_or m n None ≡ Some e → joined (drop n m) ≡ e.piece ++ joined (drop (suc n) m)
piece_at n [] e h = absurd (let i : None ≡ Some e = h in cc)
piece_at zero (None ∷ m) e h = absurd (let i : None ≡ Some e = h in cc)
piece_at zero (Some f ∷ m) e h = let i : f ≡ e = (let j : Some f ≡ Some e = h in cc) in ap (λ (x : Entry). x.piece ++ joined m) i
piece_at (suc n) (x ∷ m) e h = piece_at n m e h

-- a piece more, at its place
pub joined-set : (n : ℕ) (m : Table) (e : Entry) → n < length m → get_or m n None ≡ None → joined (set m n (Some e)) ≡ joined (take n m) ++ (e.piece ++ joined (drop n m))
joined-set n [] e l h = absurd (omega arith)
joined-set zero (None ∷ m) e l h = refl
joined-set zero (Some f ∷ m) e l h = absurd (let i : Some f ≡ None = h in cc)
joined-set (suc n) (None ∷ m) e l h = joined-set n m e (omega arith) h
joined-set (suc n) (Some f ∷ m) e l h = ap (λ (o : List ℕ). f.piece ++ o) (joined-set n m e (omega arith) h) ∙ sym (append_assoc f.piece (joined (take n m)) (e.piece ++ joined (drop n m)))

pub spans-set : (n : ℕ) (m : Table) (e : Entry) → spans_of (set m n (Some e)) ≡ set (spans_of m) n (Some (span_of e))
spans-set n [] e = refl
spans-set zero (x ∷ m) e = refl
spans-set (suc n) (x ∷ m) e = ap (λ (ss : List (Option Span)). option_map span_of x ∷ ss) (spans-set n m e)

-- ---- nothing is held above a last piece

none_at : (n : ℕ) (m : Table) → list_any is_some (drop n m) ≡ false → get_or m n None ≡ None
none_at n [] h = refl
none_at zero (None ∷ m) h = refl
none_at zero (Some e ∷ m) h = absurd (let j : true ≡ false = h in cc)
none_at (suc n) (o ∷ m) h = none_at n m h

pub joined_none : (m : Table) → list_any is_some m ≡ false → joined m ≡ []
joined_none [] h = refl
joined_none (None ∷ m) h = joined_none m h
joined_none (Some e ∷ m) h = absurd (let i : true ≡ false = h in cc)

-- where it is whole, all that is held is
pub whole_joined : (m : Table) → EndsAtLast m → is_some (whole m) ≡ true → whole m ≡ Some (joined m)
whole_joined [] t h = absurd (let i : false ≡ true = h in cc)
whole_joined (None ∷ m) t h = absurd (let i : false ≡ true = h in cc)
whole_joined (Some e ∷ m) t h = by_more e.more t h (λ u i. whole_joined m u i)
  where
    mapped : (o : Option (List ℕ)) → is_some (option_map (λ rest. e.piece ++ rest) o) ≡ true → is_some o ≡ true
    mapped None i = i
    mapped (Some r) i = refl

    by_more : (b : Bool) → MatchBool b (EndsAtLast m) (list_any is_some m ≡ false) → is_some (cond b (option_map (λ rest. e.piece ++ rest) (whole m)) (Some e.piece)) ≡ true → (EndsAtLast m → is_some (whole m) ≡ true → whole m ≡ Some (joined m)) → cond b (option_map (λ rest. e.piece ++ rest) (whole m)) (Some e.piece) ≡ Some (e.piece ++ joined m)
    by_more true u i rec = ap (λ (o : Option (List ℕ)). option_map (λ rest. e.piece ++ rest) o) (rec u (mapped (whole m) i))
    by_more false u i rec = ap (λ (o : List ℕ). Some o) (sym (append-nil e.piece) ∙ ap (λ (o : List ℕ). e.piece ++ o) (sym (joined_none m u)))

pub not_whole : (m : Table) → is_some (whole m) ≡ false → whole m ≡ None
not_whole m h = nothing (whole m) h
  where
    nothing : (o : Option (List ℕ)) → is_some o ≡ false → o ≡ None
    nothing None i = refl
    nothing (Some r) i = absurd (let j : true ≡ false = i in cc)

pub ends-set : (n : ℕ) (m : Table) (e : Entry) → EndsAtLast m → get_or m n None ≡ None → list_any is_last (take n m) ≡ false → (not e.more && list_any is_some (drop (suc n) m)) ≡ false → EndsAtLast (set m n (Some e))
ends-set n [] e t free below above = tt
ends-set zero (Some f ∷ m) e t free below above = absurd (let i : Some f ≡ None = free in cc)
ends-set zero (None ∷ m) e t free below above = by_more e.more above
  where
    by_more : (b : Bool) → (not b && list_any is_some m) ≡ false → MatchBool b (EndsAtLast m) (list_any is_some m ≡ false)
    by_more true i = t
    by_more false i = i
ends-set (suc n) (None ∷ m) e t free below above = ends-set n m e t free below above
ends-set (suc n) (Some f ∷ m) e t free below above = by_more f.more t below (λ u i. ends-set n m e u free i above)
  where
    by_more : (b : Bool) → MatchBool b (EndsAtLast m) (list_any is_some m ≡ false) → (not b || list_any is_last (take n m)) ≡ false → (EndsAtLast m → list_any is_last (take n m) ≡ false → EndsAtLast (set m n (Some e))) → MatchBool b (EndsAtLast (set m n (Some e))) (list_any is_some (set m n (Some e)) ≡ false)
    by_more true u i rec = rec u i
    by_more false u i rec = absurd (let j : true ≡ false = i in cc)

-- ---- what is counted

one_more : (n : ℕ) → ((n ≡ 0) × (cond (eqb n 0) 0 (n + 1) ≡ 0)) ⊎ ((0 < n) × (cond (eqb n 0) 0 (n + 1) ≡ n + 1))
one_more n = by_zero (cases_eq n 0)
  where
    by_zero : (n ≡ 0) ⊎ (n ≡ 0 → ⊥) → ((n ≡ 0) × (cond (eqb n 0) 0 (n + 1) ≡ 0)) ⊎ ((0 < n) × (cond (eqb n 0) 0 (n + 1) ≡ n + 1))
    by_zero (inl h) = inl (h, ap (λ (b : Bool). cond b 0 (n + 1)) (eq-eqb n 0 h))
    by_zero (inr h) = inr (positive n h, ap (λ (b : Bool). cond b 0 (n + 1)) (ne_eqb n 0 h))
      where
        positive : (k : ℕ) → (k ≡ 0 → ⊥) → 0 < k
        positive zero g = absurd (g refl)
        positive (suc k) g = omega arith

ltb_same : (a b c d : ℕ) → (a < b → c < d) → (c < d → a < b) → ltb a b ≡ ltb c d
ltb_same a b c d f g = both (ltb a b) (ltb c d) refl refl
  where
    both : (x y : Bool) → ltb a b ≡ x → ltb c d ≡ y → x ≡ y
    both true true h i = refl
    both false false h i = refl
    both true false h i = absurd (omega (arith, f (ltb-true a b h), ltb-false c d i))
    both false true h i = absurd (omega (arith, g (ltb-true c d i), ltb-false a b h))

leb_same : (a b c d : ℕ) → (a ≤ b → c ≤ d) → (c ≤ d → a ≤ b) → leb a b ≡ leb c d
leb_same a b c d f g = both (leb a b) (leb c d) refl refl
  where
    both : (x y : Bool) → leb a b ≡ x → leb c d ≡ y → x ≡ y
    both true true h i = refl
    both false false h i = refl
    both true false h i = let j : true ≡ false = sym (le-leb c d (f (leb-true a b h))) ∙ i in absurd (let k : true ≡ false = j in cc)
    both false true h i = let j : true ≡ false = sym (le-leb a b (g (leb-true c d i))) ∙ h in absurd (let k : true ≡ false = j in cc)

-- a number from k on is held exactly where it ends above k
pub held_from : (k : ℕ) (m : Table) → list_any is_some (drop k m) ≡ ltb k (end_of m)
held_from zero [] = refl
held_from (suc k) [] = sym (le-ltb (suc k) 0 (omega arith))
held_from zero (None ∷ m) = held_from zero m ∙ by_end (one_more (end_of m))
  where
    by_end : ((end_of m ≡ 0) × (end_of (None ∷ m) ≡ 0)) ⊎ ((0 < end_of m) × (end_of (None ∷ m) ≡ end_of m + 1)) → ltb 0 (end_of m) ≡ ltb 0 (end_of (None ∷ m))
    by_end (inl h) = ltb_same 0 (end_of m) 0 (end_of (None ∷ m)) (λ i. omega (arith, h.0, h.1, i)) (λ i. omega (arith, h.0, h.1, i))
    by_end (inr h) = ltb_same 0 (end_of m) 0 (end_of (None ∷ m)) (λ i. omega (arith, h.0, h.1, i)) (λ i. omega (arith, h.0, h.1, i))
held_from zero (Some e ∷ m) = sym (lt-ltb 0 (end_of m + 1) (omega arith))
held_from (suc k) (None ∷ m) = held_from k m ∙ by_end (one_more (end_of m))
  where
    by_end : ((end_of m ≡ 0) × (end_of (None ∷ m) ≡ 0)) ⊎ ((0 < end_of m) × (end_of (None ∷ m) ≡ end_of m + 1)) → ltb k (end_of m) ≡ ltb (suc k) (end_of (None ∷ m))
    by_end (inl h) = ltb_same k (end_of m) (suc k) (end_of (None ∷ m)) (λ i. omega (arith, h.0, h.1, i)) (λ i. omega (arith, h.0, h.1, i))
    by_end (inr h) = ltb_same k (end_of m) (suc k) (end_of (None ∷ m)) (λ i. omega (arith, h.0, h.1, i)) (λ i. omega (arith, h.0, h.1, i))
held_from (suc k) (Some e ∷ m) = held_from k m ∙ ltb_same k (end_of m) (suc k) (end_of m + 1) (λ i. omega (arith, i)) (λ i. omega (arith, i))

nothing_last : (m : Table) → list_any is_some m ≡ false → (end_of m ≡ 0) × (count_of m ≡ 0) × (list_any is_last m ≡ false)
nothing_last [] h = (refl, refl, refl)
nothing_last (None ∷ m) h = let r = nothing_last m h in (ap (λ (n : ℕ). cond (eqb n 0) 0 (n + 1)) r.0, r.1, r.2)
nothing_last (Some e ∷ m) h = absurd (let i : true ≡ false = h in cc)

end_zero : (m : Table) → end_of m ≡ 0 → list_any is_some m ≡ false
end_zero m h = held_from zero m ∙ le-ltb 0 (end_of m) (omega (arith, h))

and_false : (b : Bool) → (b && false) ≡ false
and_false true = refl
and_false false = refl

-- a number below q is the last exactly where there is a last one and it ends there or below
pub ended_below : (q : ℕ) (m : Table) → EndsAtLast m → list_any is_last (take q m) ≡ (list_any is_last m && leb (end_of m) q)
ended_below zero m t = by_zero (cases_eq (end_of m) 0)
  where
    by_zero : (end_of m ≡ 0) ⊎ (end_of m ≡ 0 → ⊥) → false ≡ (list_any is_last m && leb (end_of m) 0)
    by_zero (inl h) = ap (λ (b : Bool). b && leb (end_of m) 0) (sym (nothing_last m (end_zero m h)).2)
    by_zero (inr h) = sym (ap (λ (b : Bool). list_any is_last m && b) (none (leb (end_of m) 0) refl) ∙ and_false (list_any is_last m))
      where
        none : (b : Bool) → leb (end_of m) 0 ≡ b → b ≡ false
        none false i = refl
        none true i = absurd (h (omega (arith, leb-true (end_of m) 0 i)))
ended_below (suc q) [] t = refl
ended_below (suc q) (None ∷ m) t = ended_below q m t ∙ ap (λ (b : Bool). list_any is_last m && b) (by_end (one_more (end_of m)))
  where
    by_end : ((end_of m ≡ 0) × (end_of (None ∷ m) ≡ 0)) ⊎ ((0 < end_of m) × (end_of (None ∷ m) ≡ end_of m + 1)) → leb (end_of m) q ≡ leb (end_of (None ∷ m)) (suc q)
    by_end (inl h) = leb_same (end_of m) q (end_of (None ∷ m)) (suc q) (λ i. omega (arith, h.0, h.1, i)) (λ i. omega (arith, h.0, h.1, i))
    by_end (inr h) = leb_same (end_of m) q (end_of (None ∷ m)) (suc q) (λ i. omega (arith, h.0, h.1, i)) (λ i. omega (arith, h.0, h.1, i))
ended_below (suc q) (Some e ∷ m) t = by_more e.more t (λ u. ended_below q m u)
  where
    by_more : (b : Bool) → MatchBool b (EndsAtLast m) (list_any is_some m ≡ false) → (EndsAtLast m → list_any is_last (take q m) ≡ (list_any is_last m && leb (end_of m) q)) → (not b || list_any is_last (take q m)) ≡ ((not b || list_any is_last m) && leb (end_of m + 1) (suc q))
    by_more true u rec = rec u ∙ ap (λ (b : Bool). list_any is_last m && b) (leb_same (end_of m) q (end_of m + 1) (suc q) (λ i. omega (arith, i)) (λ i. omega (arith, i)))
    by_more false u rec = sym (le-leb (end_of m + 1) (suc q) (omega (arith, (nothing_last m u).0)))

count_le : (m : Table) → count_of m ≤ end_of m
count_le [] = omega arith
count_le (None ∷ m) = by_end (count_le m) (one_more (end_of m))
  where
    by_end : count_of m ≤ end_of m → ((end_of m ≡ 0) × (end_of (None ∷ m) ≡ 0)) ⊎ ((0 < end_of m) × (end_of (None ∷ m) ≡ end_of m + 1)) → count_of m ≤ end_of (None ∷ m)
    by_end l (inl h) = omega (arith, h.0, h.1, l)
    by_end l (inr h) = omega (arith, h.0, h.1, l)
count_le (Some e ∷ m) = omega (arith, count_le m)

-- it is whole exactly where there is a last piece and as many are held as there are numbers to the end
pub whole_count : (m : Table) → EndsAtLast m → is_some (whole m) ≡ (list_any is_last m && eqb (count_of m) (end_of m))
whole_count [] t = refl
whole_count (None ∷ m) t = by_end (one_more (end_of m))
  where
    by_end : ((end_of m ≡ 0) × (end_of (None ∷ m) ≡ 0)) ⊎ ((0 < end_of m) × (end_of (None ∷ m) ≡ end_of m + 1)) → false ≡ (list_any is_last m && eqb (count_of m) (end_of (None ∷ m)))
    by_end (inl h) = ap (λ (b : Bool). b && eqb (count_of m) (end_of (None ∷ m))) (sym (nothing_last m (end_zero m h.0)).2)
    by_end (inr h) = sym (ap (λ (b : Bool). list_any is_last m && b) (ne_eqb (count_of m) (end_of (None ∷ m)) (λ i. omega (arith, i, h.1, count_le m))) ∙ and_false (list_any is_last m))
whole_count (Some e ∷ m) t = by_more e.more t (λ u. whole_count m u)
  where
    mapped : (o : Option (List ℕ)) → is_some (option_map (λ rest. e.piece ++ rest) o) ≡ is_some o
    mapped None = refl
    mapped (Some r) = refl

    eqb_more : eqb (count_of m) (end_of m) ≡ eqb (count_of m + 1) (end_of m + 1)
    eqb_more = by_equal (cases_eq (count_of m) (end_of m))
      where
        by_equal : (count_of m ≡ end_of m) ⊎ (count_of m ≡ end_of m → ⊥) → eqb (count_of m) (end_of m) ≡ eqb (count_of m + 1) (end_of m + 1)
        by_equal (inl h) = eq-eqb (count_of m) (end_of m) h ∙ sym (eq-eqb (count_of m + 1) (end_of m + 1) (ap (λ (n : ℕ). n + 1) h))
        by_equal (inr h) = ne_eqb (count_of m) (end_of m) h ∙ sym (ne_eqb (count_of m + 1) (end_of m + 1) (λ i. h (omega (arith, i))))

    by_more : (b : Bool) → MatchBool b (EndsAtLast m) (list_any is_some m ≡ false) → (EndsAtLast m → is_some (whole m) ≡ (list_any is_last m && eqb (count_of m) (end_of m))) → is_some (cond b (option_map (λ rest. e.piece ++ rest) (whole m)) (Some e.piece)) ≡ ((not b || list_any is_last m) && eqb (count_of m + 1) (end_of m + 1))
    by_more true u rec = mapped (whole m) ∙ rec u ∙ ap (λ (b : Bool). list_any is_last m && b) eqb_more
    by_more false u rec = let r = nothing_last m u in sym (eq-eqb (count_of m + 1) (end_of m + 1) (ap (λ (n : ℕ). n + 1) (r.1 ∙ sym r.0)))

-- ---- what is counted with a piece more

pub end-set : (n : ℕ) (m : Table) (e : Entry) → n < length m → end_of (set m n (Some e)) ≡ max (end_of m) (n + 1)
end-set n [] e l = absurd (omega arith)
end-set zero (None ∷ m) e l = by_end (one_more (end_of m))
  where
    by_end : ((end_of m ≡ 0) × (end_of (None ∷ m) ≡ 0)) ⊎ ((0 < end_of m) × (end_of (None ∷ m) ≡ end_of m + 1)) → end_of m + 1 ≡ max (end_of (None ∷ m)) 1
    by_end (inl h) = omega (arith, h.0, h.1)
    by_end (inr h) = omega (arith, h.0, h.1)
end-set zero (Some f ∷ m) e l = omega arith
end-set (suc n) (None ∷ m) e l = let rest = end-set n m e (omega arith) in by_end rest (one_more (end_of m)) (one_more (end_of (set m n (Some e))))
  where
    by_end : end_of (set m n (Some e)) ≡ max (end_of m) (n + 1) → ((end_of m ≡ 0) × (end_of (None ∷ m) ≡ 0)) ⊎ ((0 < end_of m) × (end_of (None ∷ m) ≡ end_of m + 1)) → ((end_of (set m n (Some e)) ≡ 0) × (end_of (None ∷ set m n (Some e)) ≡ 0)) ⊎ ((0 < end_of (set m n (Some e))) × (end_of (None ∷ set m n (Some e)) ≡ end_of (set m n (Some e)) + 1)) → end_of (None ∷ set m n (Some e)) ≡ max (end_of (None ∷ m)) (suc n + 1)
    by_end r (inl h) (inl i) = absurd (omega (arith, r, i.0))
    by_end r (inr h) (inl i) = absurd (omega (arith, r, i.0))
    by_end r (inl h) (inr i) = omega (arith, r, h.0, h.1, i.1)
    by_end r (inr h) (inr i) = omega (arith, r, h.0, h.1, i.1)
end-set (suc n) (Some f ∷ m) e l = let rest = end-set n m e (omega arith) in omega (arith, rest)

pub count-set : (n : ℕ) (m : Table) (e : Entry) → n < length m → get_or m n None ≡ None → count_of (set m n (Some e)) ≡ count_of m + 1
count-set n [] e l h = absurd (omega arith)
count-set zero (None ∷ m) e l h = refl
count-set zero (Some f ∷ m) e l h = absurd (let i : Some f ≡ None = h in cc)
count-set (suc n) (None ∷ m) e l h = count-set n m e (omega arith) h
count-set (suc n) (Some f ∷ m) e l h = ap (λ (k : ℕ). k + 1) (count-set n m e (omega arith) h)

pub last-set : (n : ℕ) (m : Table) (e : Entry) → n < length m → get_or m n None ≡ None → list_any is_last (set m n (Some e)) ≡ (list_any is_last m || not e.more)
last-set n [] e l h = absurd (omega arith)
last-set zero (None ∷ m) e l h = swapped (not e.more) (list_any is_last m)
  where
    swapped : (a b : Bool) → (a || b) ≡ (b || a)
    swapped true true = refl
    swapped true false = refl
    swapped false true = refl
    swapped false false = refl
last-set zero (Some f ∷ m) e l h = absurd (let i : Some f ≡ None = h in cc)
last-set (suc n) (None ∷ m) e l h = last-set n m e (omega arith) h
last-set (suc n) (Some f ∷ m) e l h = ap (λ (b : Bool). not f.more || b) (last-set n m e (omega arith) h) ∙ or_or (not f.more) (list_any is_last m) (not e.more)
  where
    or_or : (a b c : Bool) → (a || (b || c)) ≡ ((a || b) || c)
    or_or true b c = refl
    or_or false b c = refl

-- nothing stands from its end on
pub end-joined : (q : ℕ) (m : Table) → end_of m ≤ q → joined (take q m) ≡ joined m
end-joined q m l = sym (joined-split q m ∙ ap (λ (o : List ℕ). joined (take q m) ++ o) (joined_none (drop q m) (held_from q m ∙ le-ltb q (end_of m) l)) ∙ append-nil (joined (take q m)))

-- ---- of what is held as octets and spans

pub record HoldsSpan (octets : List ℕ) (m : Table) (n start : ℕ) (span : Span) : Type 0 where
  pub entry : Entry
  pub is : get_or m n None ≡ Some entry
  pub more : entry.more ≡ span.more
  pub within : start + span.len ≤ length octets
  pub piece : slice_range octets start (start + span.len) ≡ entry.piece

pub same_held : {octets : List ℕ} {m : Table} {n start : ℕ} {span : Span} (held : HoldsSpan octets m n start span) (s : Delivery) (b : Bool) → b ≡ same_entry (record { piece = slice_range octets start (start + span.len); more = span.more }) s → same_entry held.entry s ≡ b
same_held {octets} {m} {n} {start} {span} held s b h = ap (λ (p : List ℕ). bytes_eq p s.piece && same_more held.entry.more s.more) (sym held.piece) ∙ ap (λ (x : Bool). bytes_eq (slice_range octets start (start + span.len)) s.piece && same_more x s.more) held.more ∙ sym h

span_entry : (o : Option Entry) (span : Span) → option_map span_of o ≡ Some span → (e : Entry) × (o ≡ Some e) × (span_of e ≡ span)
span_entry None span h = absurd (let i : None ≡ Some span = h in cc)
span_entry (Some e) span h = (e, refl, (let i : Some (span_of e) ≡ Some span = h in cc))

no_span : (o : Option Entry) → option_map span_of o ≡ None → o ≡ None
no_span None h = refl
no_span (Some e) h = absurd (let i : Some (span_of e) ≡ None = h in cc)

range_of : (xs ys zs : List ℕ) (start len : ℕ) → start ≡ length xs → len ≡ length ys → slice_range (xs ++ (ys ++ zs)) start (start + len) ≡ ys
range_of xs ys zs start len e f =
    let d : drop start (xs ++ (ys ++ zs)) ≡ ys ++ zs = drop_at xs (ys ++ zs) start (sym e) in
    let k : start + len - start ≡ len = omega arith in
    ap (λ (n : ℕ). take n (drop start (xs ++ (ys ++ zs)))) k ∙ ap (λ (o : List ℕ). take len o) d ∙ take_at ys zs len (sym f)

pub record CanAdd (m : Table) (s : Delivery) : Type 0 where
  pub free : entry_at m s.seq ≡ None
  pub early : (not s.more && is_held_above m s.seq) ≡ false
  pub below : is_ended_below m s.seq ≡ false
  pub room : length (joined m) + length s.piece ≤ 65535

pub can_add : (m : Table) (s : Delivery) → may_add m s ≡ true → CanAdd m s
can_add m s h = parts (entry_at m s.seq) (not s.more && is_held_above m s.seq) (is_ended_below m s.seq) (s.more && eqb s.seq 255) (has_room m s) refl refl refl refl h
  where
    parts : (o : Option Entry) (early below past room : Bool) → entry_at m s.seq ≡ o → (not s.more && is_held_above m s.seq) ≡ early → is_ended_below m s.seq ≡ below → has_room m s ≡ room → (is_none o && not early && not below && not past && room) ≡ true → CanAdd m s
    parts None false false false true a b d e i = record { free = a; early = b; below = d; room = leb-true _ _ e }
    parts (Some x) early below past room a b d e i = absurd (let j : false ≡ true = i in cc)
    parts None true below past room a b d e i = absurd (let j : false ≡ true = i in cc)
    parts None false true past room a b d e i = absurd (let j : false ≡ true = i in cc)
    parts None false false true room a b d e i = absurd (let j : false ≡ true = i in cc)
    parts None false false false false a b d e i = absurd (let j : false ≡ true = i in cc)

module _ {octets : List ℕ} {spans : List (Option Span)} {count end : ℕ} {ended : Bool} (h : Holds octets spans count end ended) where
  pub table_is : table_of octets spans ≡ h.table
  table_is = subst (λ (o : List ℕ). table_of o spans ≡ h.table) (sym h.octets_are) (subst (λ (ss : List (Option Span)). table_of (joined h.table) ss ≡ h.table) (sym h.spans_are) (table_back h.table))

  pub places_of : length h.table ≡ 256
  places_of = sym (length-map h.table (λ o. option_map span_of o)) ∙ ap (λ (ss : List (Option Span)). length ss) (sym h.spans_are) ∙ h.places

  pub start_is : (n : ℕ) → sum_by span_len (take n spans) ≡ length (joined (take n h.table))
  start_is n = ap (λ (ss : List (Option Span)). sum_by span_len (take n ss)) h.spans_are ∙ sum-spans n h.table

  pub length_split : (n : ℕ) → length octets ≡ length (joined (take n h.table)) + length (joined (drop n h.table))
  length_split n = ap (λ (o : List ℕ). length o) (h.octets_are ∙ joined-split n h.table) ∙ length-append (joined (take n h.table)) (joined (drop n h.table))

  pub start_within : (n : ℕ) → sum_by span_len (take n spans) ≤ length octets
  start_within n = omega (arith, start_is n, length_split n)

  -- behind the end there is nothing
  pub start_end : (n : ℕ) → end ≤ n → length octets ≡ sum_by span_len (take n spans)
  start_end n l = ap (λ (o : List ℕ). length o) (h.octets_are ∙ sym (end-joined n h.table (omega (arith, h.end_is, l)))) ∙ sym (start_is n)

  pub span_held : (n start : ℕ) (span : Span) → start ≡ sum_by span_len (take n spans) → get_or spans n None ≡ Some span → HoldsSpan octets h.table n start span
  span_held n start span s g =
      let found = span_entry (get_or h.table n None) span (sym (entry-spans n h.table) ∙ ap (λ (ss : List (Option Span)). get_or ss n None) (sym h.spans_are) ∙ g) in
      let rest = piece_at n h.table found.0 found.1 in
      let at : start ≡ length (joined (take n h.table)) = s ∙ start_is n in
      let len : span.len ≡ length found.0.piece = ap (λ (x : Span). x.len) (sym found.2) in
      let split : octets ≡ joined (take n h.table) ++ (found.0.piece ++ joined (drop (suc n) h.table)) = h.octets_are ∙ joined-split n h.table ∙ ap (λ (o : List ℕ). joined (take n h.table) ++ o) rest in
      record {
        entry = found.0;
        is = found.1;
        more = ap (λ (x : Span). x.more) found.2;
        within = omega (arith, at, len, ap (λ (o : List ℕ). length o) split ∙ length-append (joined (take n h.table)) (found.0.piece ++ joined (drop (suc n) h.table)), length-append found.0.piece (joined (drop (suc n) h.table)));
        piece = ap (λ (o : List ℕ). slice_range o start (start + span.len)) split ∙ range_of (joined (take n h.table)) found.0.piece (joined (drop (suc n) h.table)) start span.len at len;
      }

  pub span_at : (n k : ℕ) (span : Option Span) → n ≡ k → k < 256 → span ≡ get_or spans n span → get_or spans n None ≡ span
  span_at n k span e l is = get_or_default spans n None span (omega (arith, e, l, h.places)) ∙ sym is

  -- behind the end nothing is held
  pub free_behind : (n : ℕ) → end ≤ n → get_or spans n None ≡ None
  free_behind n l = ap (λ (ss : List (Option Span)). get_or ss n None) h.spans_are ∙ entry-spans n h.table ∙ ap (λ (o : Option Entry). option_map span_of o) (none_at n h.table (held_from n h.table ∙ le-ltb n (end_of h.table) (omega (arith, h.end_is, l))))

  pub room_at : length (joined h.table) ≡ length octets
  room_at = ap (λ (o : List ℕ). length o) (sym h.octets_are)

  pub whole_is : is_some (whole h.table) ≡ (ended && eqb count end)
  whole_is = whole_count h.table h.ends ∙ ap (λ (b : Bool). b && eqb (count_of h.table) (end_of h.table)) (sym h.ended_is) ∙ ap (λ (n : ℕ). ended && eqb n (end_of h.table)) (sym h.count_is) ∙ ap (λ (n : ℕ). ended && eqb count n) (sym h.end_is)

  pub judged : (s : Delivery) (r : Result Bool TakeFault) → Judges h.table s r → Judges (table_of octets spans) s r
  judged s r j = subst (λ (m : Table). Judges m s r) (sym table_is) j

  module _ (s : Delivery) (n : ℕ) (number : n ≡ s.seq) where
    pub free_at : get_or spans n None ≡ None → entry_at h.table s.seq ≡ None
    free_at g = ap (λ (k : ℕ). get_or h.table k None) (sym number) ∙ no_span _ (sym (entry-spans n h.table) ∙ ap (λ (ss : List (Option Span)). get_or ss n None) (sym h.spans_are) ∙ g)

    pub early_at : (not s.more && is_held_above h.table s.seq) ≡ (not s.more && ltb (n + 1) end)
    early_at =
        ap (λ (k : ℕ). not s.more && list_any is_some (drop (k + 1) h.table)) (sym number)
        ∙ ap (λ (b : Bool). not s.more && b) (held_from (n + 1) h.table ∙ ap (λ (k : ℕ). ltb (n + 1) k) (sym h.end_is))

    pub past_at : (is_ended_below h.table s.seq || (s.more && eqb s.seq 255)) ≡ ((ended && leb end n) || (s.more && eqb n 255))
    past_at =
        ap (λ (k : ℕ). list_any is_last (take k h.table) || (s.more && eqb k 255)) (sym number)
        ∙ ap (λ (b : Bool). b || (s.more && eqb n 255)) (ended_below n h.table h.ends ∙ ap (λ (b : Bool). b && leb (end_of h.table) n) (sym h.ended_is) ∙ ap (λ (k : ℕ). ended && leb k n) (sym h.end_is))

-- ---- a segment more

pub held_with : {octets : List ℕ} {spans : List (Option Span)} {count end : ℕ} {ended : Bool} (new_octets : List ℕ) (new_spans : List (Option Span)) (h : Holds octets spans count end ended) (s : Delivery) (n start : ℕ) → n ≡ s.seq → s.seq < 256 → start ≡ sum_by span_len (take n spans) → may_add h.table s ≡ true → new_octets ≡ take start octets ++ (s.piece ++ drop start octets) → new_spans ≡ set spans n (Some (record { len = length s.piece; more = s.more })) → (new : Holds new_octets new_spans (count + 1) (max end (n + 1)) (ended || not s.more)) × (new.table ≡ with_segment h.table s)
held_with {octets} {spans} {count} {end} {ended} new_octets new_spans h s n start e l at may eq eq' =
    let can = can_add h.table s may in
    let m = h.table in
    let places = places_of h in
    let start_at : start ≡ length (joined (take s.seq m)) = at ∙ start_is h n ∙ ap (λ (k : ℕ). length (joined (take k m))) e in
    let split : octets ≡ joined (take s.seq m) ++ joined (drop s.seq m) = h.octets_are ∙ joined-split s.seq m in
    let front : take start octets ≡ joined (take s.seq m) = ap (λ (o : List ℕ). take start o) split ∙ take_at (joined (take s.seq m)) (joined (drop s.seq m)) start (sym start_at) in
    let back : drop start octets ≡ joined (drop s.seq m) = ap (λ (o : List ℕ). drop start o) split ∙ drop_at (joined (take s.seq m)) (joined (drop s.seq m)) start (sym start_at) in
    let entry : Entry = record { piece = s.piece; more = s.more } in
    let joined_new : new_octets ≡ joined (with_segment m s) = eq ∙ ap (λ (o : List ℕ). o ++ (s.piece ++ drop start octets)) front ∙ ap (λ (o : List ℕ). joined (take s.seq m) ++ (s.piece ++ o)) back ∙ sym (joined-set s.seq m entry (omega arith) can.free) in (
      record {
        table = with_segment m s;
        octets_are = joined_new;
        spans_are = eq' ∙ ap (λ (k : ℕ). set spans k (Some (span_of entry))) e ∙ ap (λ (ss : List (Option Span)). set ss s.seq (Some (span_of entry))) h.spans_are ∙ sym (spans-set s.seq m entry);
        places = ap (λ (ss : List (Option Span)). length ss) eq' ∙ length-set spans n _ ∙ h.places;
        ends = ends-set s.seq m entry h.ends can.free can.below (ap (λ (k : ℕ). not s.more && list_any is_some (drop k m)) (sym (add-one s.seq)) ∙ can.early);
        small = omega (arith, ap (λ (o : List ℕ). length o) eq ∙ length-append (take start octets) (s.piece ++ drop start octets), length-append s.piece (drop start octets), ap (λ (o : List ℕ). length o) (take-append-drop start octets), length-append (take start octets) (drop start octets), can.room, room_at h);
        count_is = ap (λ (k : ℕ). k + 1) h.count_is ∙ sym (count-set s.seq m entry (omega arith) can.free);
        end_is = ap (λ (k : ℕ). max k (n + 1)) h.end_is ∙ ap (λ (k : ℕ). max (end_of m) (k + 1)) e ∙ sym (end-set s.seq m entry (omega arith));
        ended_is = ap (λ (b : Bool). b || not s.more) h.ended_is ∙ sym (last-set s.seq m entry (omega arith) can.free);
      },
      refl,
    )

-- ---- nothing is held

spans_none : (n : ℕ) → spans_of (replicate n None) ≡ replicate n None
spans_none zero = refl
spans_none (suc n) = ap (λ (ss : List (Option Span)). None ∷ ss) (spans_none n)

joined_nothing : (n : ℕ) → joined (replicate n None) ≡ []
joined_nothing zero = refl
joined_nothing (suc n) = joined_nothing n

ends_nothing : (n : ℕ) → EndsAtLast (replicate n None)
ends_nothing zero = tt
ends_nothing (suc n) = ends_nothing n

none_held : (n : ℕ) → list_any is_some (let m : Table = replicate n None in m) ≡ false
none_held zero = refl
none_held (suc n) = none_held n

no_span_at : Option Span
no_span_at = None

pub held_nothing : (octets : List ℕ) (spans : List (Option Span)) → octets ≡ [] → spans ≡ replicate 256 None → (new : Holds octets spans 0 0 false) × (new.table ≡ empty_table)
unfolding empty_table no_span_at
held_nothing octets spans e f =
    let none = nothing_last (replicate 256 None) (none_held 256) in (
      record {
        table = replicate 256 None;
        octets_are = e ∙ sym (joined_nothing 256);
        spans_are = f ∙ sym (spans_none 256);
        places = ap (λ (ss : List (Option Span)). length ss) f ∙ length-replicate 256 no_span_at;
        ends = ends_nothing 256;
        small = omega (arith, ap (λ (o : List ℕ). length o) e);
        count_is = sym none.1;
        end_is = sym none.0;
        ended_is = sym none.2;
      },
      refl,
    )

pub resized : (new old : List (Option Span)) (n : ℕ) → new ≡ take 256 old ++ replicate (256 - n) None → old ≡ [] → n ≡ 0 → new ≡ replicate 256 None
resized new old n e f g = e ∙ ap (λ (o : List (Option Span)). take 256 o ++ replicate (256 - n) None) f ∙ ap (λ (k : ℕ). replicate (256 - k) None) g

-- ---- what `keep` leaves

put_ok : (r : Result (Unit {0}) OutOfMemory) (P : Type 0) → is_err r ≡ false → OnOk r P → P
put_ok (Ok x) P h p = p
put_ok (Err e) P h p = absurd (let j : true ≡ false = h in cc)

pub record KeptIn (old new : Held) (s : Delivery) : Type 0 where
  pub held : IsHeld new
  pub judged : Judges (table_in old) s (Ok true)
  pub table : table_in new ≡ with_segment (table_in old) s
  pub whole : (new.ended && eqb new.count new.end) ≡ is_some (whole (with_segment (table_in old) s))

pub kept_in : (old new : Held) (h : IsHeld old) (s : Delivery) (n start : ℕ) → n ≡ s.seq → s.seq < 256 → start ≡ sum_by span_len (take n old.spans.items) → Judges (table_in old) s (Ok true) → new.octets.items ≡ take start old.octets.items ++ (s.piece ++ drop start old.octets.items) → new.spans.items ≡ set old.spans.items n (Some (record { len = length s.piece; more = s.more })) → new.count ≡ old.count + 1 → new.end ≡ max old.end (n + 1) → new.ended ≡ (old.ended || not s.more) → KeptIn old new s
kept_in old new h s n start e l at j octets spans count end ended =
    let made = held_with new.octets.items new.spans.items h s n start e l at (subst (λ (m : Table). may_add m s ≡ true) (table_is h) j.0) octets spans in
    let same = ap (λ (m : Table). with_segment m s) (sym (table_is h)) in
    let is : (x : IsHeld new) × (x.table ≡ with_segment h.table s) =
    subst (λ (b : Bool). (x : Holds new.octets.items new.spans.items new.count new.end b) × (x.table ≡ with_segment h.table s)) (sym ended)
    (subst (λ (k : ℕ). (x : Holds new.octets.items new.spans.items new.count k (old.ended || not s.more)) × (x.table ≡ with_segment h.table s)) (sym end)
    (subst (λ (k : ℕ). (x : Holds new.octets.items new.spans.items k (max old.end (n + 1)) (old.ended || not s.more)) × (x.table ≡ with_segment h.table s)) (sym count) made))
    in
    record {
      held = is.0;
      judged = j;
      table = table_is is.0 ∙ is.1 ∙ same;
      whole = sym (whole_is is.0) ∙ ap (λ (m : Table). is_some (whole m)) (is.1 ∙ same);
    }

-- the same, from what the calls say
pub kept_by : (old new : Held) (h : IsHeld old) (s : Delivery) (piece put_octets : List ℕ) (n start len : ℕ) (r : Result Bool TakeFault) (b e : Bool) (p : Result (Unit {0}) OutOfMemory) → n ≡ s.seq → s.seq < 256 → start ≡ sum_by span_len (take n old.spans.items) → Judges (table_in old) s r → r ≡ Ok b → b ≡ true → e ≡ is_err p → e ≡ false → piece ≡ s.piece → OnOk p (put_octets ≡ (take start old.octets.items ++ piece) ++ drop start old.octets.items) → new.octets.items ≡ put_octets → len ≡ length s.piece → new.spans.items ≡ set old.spans.items n (Some (record { len = len; more = s.more })) → new.count ≡ old.count + 1 → new.end ≡ max old.end (n + 1) → new.ended ≡ (old.ended || not s.more) → KeptIn old new s
kept_by old new h s piece put_octets n start len r b e p is_seq small at j is_r is_b is_e no_e is_piece put_so octets_so is_len spans_so count end ended =
    let judged = subst (λ (x : Result Bool TakeFault). Judges (table_in old) s x) (is_r ∙ ap (λ (x : Bool). Ok x) is_b) j in
    kept_in old new h s n start is_seq small at judged
    (octets_so ∙ put_ok p _ (sym is_e ∙ no_e) put_so ∙ append_assoc (take start old.octets.items) piece (drop start old.octets.items) ∙ ap (λ (o : List ℕ). take start old.octets.items ++ (o ++ drop start old.octets.items)) is_piece)
    (spans_so ∙ ap (λ (k : ℕ). set old.spans.items n (Some (record { len = k; more = s.more }))) is_len)
    count
    end
    ended

-- fewer are held than there are numbers, where one more is new
pub count_fits : {octets : List ℕ} {spans : List (Option Span)} {count end : ℕ} {ended : Bool} (h : Holds octets spans count end ended) (s : Delivery) (r : Result Bool TakeFault) (b : Bool) → s.seq < 256 → Judges (table_of octets spans) s r → r ≡ Ok b → b ≡ true → count < 256
count_fits {octets} {spans} {count} {end} {ended} h s r b l j is_r is_b =
    let judged = subst (λ (x : Result Bool TakeFault). Judges (table_of octets spans) s x) (is_r ∙ ap (λ (x : Bool). Ok x) is_b) j in
    let can = can_add h.table s (subst (λ (m : Table). may_add m s ≡ true) (table_is h) judged.0) in
    omega (arith, h.count_is, places_of h, count_free s.seq h.table (omega (arith, l, places_of h)) can.free)
  where
    count_all : (m : Table) → count_of m ≤ length m
    count_all [] = omega arith
    count_all (None ∷ m) = omega (arith, count_all m)
    count_all (Some e ∷ m) = omega (arith, count_all m)

    count_free : (n : ℕ) (m : Table) → n < length m → get_or m n None ≡ None → count_of m < length m
    count_free n [] k g = absurd (omega arith)
    count_free zero (None ∷ m) k g = omega (arith, count_all m)
    count_free zero (Some e ∷ m) k g = absurd (let i : Some e ≡ None = g in cc)
    count_free (suc n) (None ∷ m) k g = omega (arith, count_free n m (omega arith) g)
    count_free (suc n) (Some e ∷ m) k g = omega (arith, count_free n m (omega arith) g)
