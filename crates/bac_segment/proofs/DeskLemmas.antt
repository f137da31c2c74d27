-- Keys of a desk are apart.
use Rattle.std.specs.Prelude.{Some, None, is_some, is_none, OnErr, is_err, is_ok}
use Rattle.std.proofs.Common.{◌≡◌, ◌≤◌, ◌<◌, ◌+◌, ℕ, zero, suc, Bool, true, false, not, cond, eqb, leb, ◌&&◌, ◌||◌, Option, Result, Ok, Err, List, [], ◌∷◌, ◌++◌, length, take, drop, set, replicate, get_or, refl, sym, ap, ◌∙◌, subst, arith, zero-add}
use Rattle.std.specs.List.{list_any, remove, AllByRecursion}
use Rattle.std.specs.Option.{option_map, unwrap_or}
use Rattle.std.proofs.lemmas.Bool.{lt-leb, le-leb, leb-false, eq-eqb}
use Rattle.std.proofs.lemmas.List.{set-get_or, drop_more, drop_all, length-set, length-replicate}
use mathlib.Core.Bool.{beq}
use Rattle.bac_segment.specs.declared.keys.Key.{Key}
use Rattle.bac_segment.specs.declared.faults.Taken.{Taken}
use Rattle.bac_segment.specs.declared.faults.Taken.TheVariants.{Repeat}
use Rattle.bac_segment.specs.declared.faults.TakeFault.{TakeFault}
use Rattle.bac_segment.specs.declared.faults.TakeFault.TheVariants.{OtherKey, Conflict, PastEnd, TooLarge, OutOfMemory, DeskFull}
use Rattle.bac_segment.specs.Deliveries.{Delivery, key_of}
use Rattle.bac_segment.specs.Tables.{Entry, Table, empty_table, whole, joined, is_last, with_segment, holds_any}
use Rattle.bac_segment.specs.Taking.{Answer, answer, may_add, with_next, Judges, Keeps, entry_at, is_held_above, is_ended_below}
use Rattle.bac_segment.specs.Reassembled.{Reassembled, Takes, opened}
use Rattle.bac_segment.specs.Desks.{same_key, place_of, table_of_key, is_open, held_of, is_full_for, put, closed, AreApart, IsDesk, AreUsed, DeskTakes}
use Rattle.bac_segment.proofs.JudgeLemmas.{keeps_fault, past_end, too_large, is_new, judged_somehow, no_repeat}
use Rattle.bac_segment.proofs.TakeLemmas.{same_key as key_from}

pub key_same : (a b : Key) → same_key a b ≡ true → a ≡ b
key_same a b h = key_from a b (sym (ap not h))

beq_self : (b : Bool) → beq b b ≡ true
beq_self true = refl
beq_self false = refl

pub same_self : (a : Key) → same_key a a ≡ true
same_self a =
    ap (λ (x : Bool). x && (beq a.request a.request && (eqb a.invoke a.invoke && eqb a.choice a.choice))) (eq-eqb a.peer a.peer refl)
    ∙ ap (λ (x : Bool). x && (eqb a.invoke a.invoke && eqb a.choice a.choice)) (beq_self a.request)
    ∙ ap (λ (x : Bool). x && eqb a.choice a.choice) (eq-eqb a.invoke a.invoke refl)
    ∙ eq-eqb a.choice a.choice refl

pub put_same : (rs : List Reassembled) (k : Key) (m : Table) → table_of_key (put rs k m) k ≡ Some m
put_same [] k m = ap (λ (b : Bool). cond b (Some m) None) (same_self k)
put_same (r ∷ rs) k m = by_same (same_key r.key k) refl (put_same rs k m)
  where
    by_same : (b : Bool) → same_key r.key k ≡ b → table_of_key (put rs k m) k ≡ Some m → table_of_key (cond b (record { key = k; table = m } ∷ rs) (r ∷ put rs k m)) k ≡ Some m
    by_same true e h = ap (λ (b : Bool). cond b (Some m) (table_of_key rs k)) (same_self k)
    by_same false e h = ap (λ (b : Bool). cond b (Some r.table) (table_of_key (put rs k m) k)) e ∙ h

pub put_other : (rs : List Reassembled) (k q : Key) (m : Table) → same_key k q ≡ false → table_of_key (put rs k m) q ≡ table_of_key rs q
put_other [] k q m n = ap (λ (b : Bool). cond b (Some m) None) n
put_other (r ∷ rs) k q m n = by_same (same_key r.key k) refl (put_other rs k q m n)
  where
    by_same : (b : Bool) → same_key r.key k ≡ b → table_of_key (put rs k m) q ≡ table_of_key rs q → table_of_key (cond b (record { key = k; table = m } ∷ rs) (r ∷ put rs k m)) q ≡ cond (same_key r.key q) (Some r.table) (table_of_key rs q)
    by_same true e h = ap (λ (b : Bool). cond b (Some m) (table_of_key rs q)) n ∙ ap (λ (b : Bool). cond b (Some r.table) (table_of_key rs q)) (sym (ap (λ (x : Key). same_key x q) (key_same r.key k e) ∙ n))
    by_same false e h = ap (λ (t : Option Table). cond (same_key r.key q) (Some r.table) t) h

pub closed_same : (rs : List Reassembled) (k : Key) → table_of_key (closed rs k) k ≡ None
closed_same [] k = refl
closed_same (r ∷ rs) k = by_same (same_key r.key k) refl (closed_same rs k)
  where
    by_same : (b : Bool) → same_key r.key k ≡ b → table_of_key (closed rs k) k ≡ None → table_of_key (cond b (closed rs k) (r ∷ closed rs k)) k ≡ None
    by_same true e h = h
    by_same false e h = ap (λ (b : Bool). cond b (Some r.table) (table_of_key (closed rs k) k)) e ∙ h

pub closed_other : (rs : List Reassembled) (k q : Key) → same_key k q ≡ false → table_of_key (closed rs k) q ≡ table_of_key rs q
closed_other [] k q n = refl
closed_other (r ∷ rs) k q n = by_same (same_key r.key k) refl (closed_other rs k q n)
  where
    by_same : (b : Bool) → same_key r.key k ≡ b → table_of_key (closed rs k) q ≡ table_of_key rs q → table_of_key (cond b (closed rs k) (r ∷ closed rs k)) q ≡ cond (same_key r.key q) (Some r.table) (table_of_key rs q)
    by_same true e h = h ∙ ap (λ (b : Bool). cond b (Some r.table) (table_of_key rs q)) (sym (ap (λ (x : Key). same_key x q) (key_same r.key k e) ∙ n))
    by_same false e h = ap (λ (t : Option Table). cond (same_key r.key q) (Some r.table) t) h

-- ---- where a key stands

plus : (i : ℕ) (o : Option ℕ) → option_map (λ j. j + i) (option_map (λ j. suc j) o) ≡ option_map (λ j. j + (i + 1)) o
plus i None = refl
plus i (Some j) = let e : suc j + i ≡ j + (i + 1) = omega arith in ap (λ (n : ℕ). Some n) e

at_index : (rs : List Reassembled) (k : Key) (i : ℕ) (r : Reassembled) (b : Bool) → i < length rs → r ≡ get_or rs i r → same_key r.key k ≡ b → place_of (drop i rs) k ≡ cond b (Some 0) (option_map (λ j. suc j) (place_of (drop (i + 1) rs) k))
at_index rs k i r b l is e = ap (λ (t : List Reassembled). place_of t k) (drop_more rs i r l ∙ ap (λ (x : Reassembled). x ∷ drop (i + 1) rs) (sym is)) ∙ ap (λ (x : Bool). cond x (Some 0) (option_map (λ j. suc j) (place_of (drop (i + 1) rs) k))) e

pub place_more : (rs : List Reassembled) (k : Key) (i : ℕ) (r : Reassembled) → place_of rs k ≡ option_map (λ j. j + i) (place_of (drop i rs) k) → i < length rs → r ≡ get_or rs i r → same_key r.key k ≡ false → place_of rs k ≡ option_map (λ j. j + (i + 1)) (place_of (drop (i + 1) rs) k)
place_more rs k i r h l is e = h ∙ ap (λ (o : Option ℕ). option_map (λ j. j + i) o) (at_index rs k i r false l is e) ∙ plus i (place_of (drop (i + 1) rs) k)

pub place_found : (rs : List Reassembled) (k : Key) (i : ℕ) (r : Reassembled) → place_of rs k ≡ option_map (λ j. j + i) (place_of (drop i rs) k) → i < length rs → r ≡ get_or rs i r → same_key r.key k ≡ true → Some i ≡ place_of rs k
place_found rs k i r h l is e = sym (h ∙ ap (λ (o : Option ℕ). option_map (λ j. j + i) o) (at_index rs k i r true l is e) ∙ ap (λ (n : ℕ). Some n) (zero-add i))

pub place_none : (rs : List Reassembled) (k : Key) (i : ℕ) → place_of rs k ≡ option_map (λ j. j + i) (place_of (drop i rs) k) → length rs ≤ i → None ≡ place_of rs k
place_none rs k i h l = sym (h ∙ ap (λ (t : List Reassembled). option_map (λ j. j + i) (place_of t k)) (drop_all i rs l))

-- ---- the key that stands at a place

pub record Found (rs : List Reassembled) (k : Key) (i : ℕ) : Type 0 where
  pub within : i < length rs
  pub table : (d : Reassembled) → table_of_key rs k ≡ Some (get_or rs i d).table
  pub key : (d : Reassembled) → (get_or rs i d).key ≡ k
  pub puts : (r : Reassembled) → r.key ≡ k → set rs i r ≡ put rs k r.table

found_first : (r : Reassembled) (rs : List Reassembled) (k : Key) → same_key r.key k ≡ true → Found (r ∷ rs) k 0
found_first r rs k e = record {
  within = omega arith;
  table = λ d. ap (λ (b : Bool). cond b (Some r.table) (table_of_key rs k)) e;
  key = λ d. key_same r.key k e;
  puts = λ x h. ap (λ (q : Key). (let y : Reassembled = record { key = q; table = x.table } in y) ∷ rs) h ∙ ap (λ (b : Bool). cond b ((let y : Reassembled = record { key = k; table = x.table } in y) ∷ rs) (r ∷ put rs k x.table)) (sym e);
}

found_next : (r : Reassembled) (rs : List Reassembled) (k : Key) (i : ℕ) → same_key r.key k ≡ false → Found rs k i → Found (r ∷ rs) k (suc i)
found_next r rs k i e f = record {
  within = omega (arith, f.within);
  table = λ d. ap (λ (b : Bool). cond b (Some r.table) (table_of_key rs k)) e ∙ f.table d;
  key = λ d. f.key d;
  puts = λ x h. ap (λ (t : List Reassembled). r ∷ t) (f.puts x h) ∙ ap (λ (b : Bool). cond b ((let y : Reassembled = record { key = k; table = x.table } in y) ∷ rs) (r ∷ put rs k x.table)) (sym e);
}

was_suc : (o : Option ℕ) (i : ℕ) → option_map (λ j. suc j) o ≡ Some i → (j : ℕ) × (o ≡ Some j) × (i ≡ suc j)
was_suc None i h = absurd (let e : None ≡ Some i = h in cc)
was_suc (Some j) i h = (j, refl, (let e : Some (suc j) ≡ Some i = h in cc))

pub found : (rs : List Reassembled) (k : Key) (i : ℕ) → place_of rs k ≡ Some i → Found rs k i
found [] k i h = absurd (let e : None ≡ Some i = h in cc)
found (r ∷ rs) k i h = by_same (same_key r.key k) refl h (λ j e. found rs k j e)
  where
    by_same : (b : Bool) → same_key r.key k ≡ b → cond b (Some 0) (option_map (λ j. suc j) (place_of rs k)) ≡ Some i → ((j : ℕ) → place_of rs k ≡ Some j → Found rs k j) → Found (r ∷ rs) k i
    by_same true e g rec = let z : 0 ≡ i = (let t : Some 0 ≡ Some i = g in cc) in subst (λ (n : ℕ). Found (r ∷ rs) k n) z (found_first r rs k e)
    by_same false e g rec = let w = was_suc (place_of rs k) i g in subst (λ (n : ℕ). Found (r ∷ rs) k n) (sym w.2) (found_next r rs k w.0 e (rec w.0 w.1))

pub lost : (rs : List Reassembled) (k : Key) (m : Table) → place_of rs k ≡ None → (table_of_key rs k ≡ None) × (put rs k m ≡ rs ++ record { key = k; table = m } ∷ [])
lost [] k m h = (refl, refl)
lost (r ∷ rs) k m h = by_same (same_key r.key k) refl h (λ e. lost rs k m e)
  where
    was_none : (o : Option ℕ) → option_map (λ j. suc j) o ≡ None → o ≡ None
    was_none None g = refl
    was_none (Some j) g = absurd (let e : Some (suc j) ≡ None = g in cc)

    by_same : (b : Bool) → same_key r.key k ≡ b → cond b (Some 0) (option_map (λ j. suc j) (place_of rs k)) ≡ None → (place_of rs k ≡ None → (table_of_key rs k ≡ None) × (put rs k m ≡ rs ++ record { key = k; table = m } ∷ [])) → (cond (same_key r.key k) (Some r.table) (table_of_key rs k) ≡ None) × (cond (same_key r.key k) (record { key = k; table = m } ∷ rs) (r ∷ put rs k m) ≡ r ∷ (rs ++ record { key = k; table = m } ∷ []))
    by_same true e g rec = absurd (let t : Some 0 ≡ None = g in cc)
    by_same false e g rec =
        let l = rec (was_none (place_of rs k) g) in
        (ap (λ (b : Bool). cond b (Some r.table) (table_of_key rs k)) e ∙ l.0, ap (λ (b : Bool). cond b (record { key = k; table = m } ∷ rs) (r ∷ put rs k m)) e ∙ ap (λ (t : List Reassembled). r ∷ t) l.1)

pub octets_found : (rs : List Reassembled) (k : Key) (i : ℕ) (r : Reassembled) → place_of rs k ≡ Some i → r ≡ get_or rs i r → whole r.table ≡ whole (held_of rs k)
octets_found rs k i r h is = ap (λ (x : Reassembled). whole x.table) is ∙ ap (λ (o : Option Table). whole (unwrap_or o empty_table)) (sym ((found rs k i h).table r))

none_whole : whole empty_table ≡ None
unfolding empty_table
none_whole = refl

pub octets_lost : (rs : List Reassembled) (k : Key) → place_of rs k ≡ None → None ≡ whole (held_of rs k)
octets_lost rs k h = sym (ap (λ (o : Option Table). whole (unwrap_or o empty_table)) (lost rs k empty_table h).0 ∙ none_whole)

-- ---- whether it is full

and_false : (b : Bool) → (b && false) ≡ false
and_false true = refl
and_false false = refl

pub has_room_open : (rs : List Reassembled) (k : Key) (i : ℕ) → place_of rs k ≡ Some i → is_full_for rs k ≡ false
has_room_open rs k i h = ap (λ (o : Option Table). is_none o && leb 8 (length rs)) ((found rs k i h).table (record { key = k; table = empty_table }))

pub has_room_few : (rs : List Reassembled) (k : Key) → length rs < 8 → is_full_for rs k ≡ false
has_room_few rs k l = ap (λ (b : Bool). is_none (table_of_key rs k) && b) (lt-leb 8 (length rs) l) ∙ and_false (is_none (table_of_key rs k))

pub is_full : (rs : List Reassembled) (k : Key) → place_of rs k ≡ None → 8 ≤ length rs → is_full_for rs k ≡ true
is_full rs k h l = ap (λ (o : Option Table). is_none o && leb 8 (length rs)) (lost rs k empty_table h).0 ∙ le-leb 8 (length rs) l

-- ---- a segment of a key that is open, and of one that is not

pub takes_open : (rs : List Reassembled) (peer : ℕ) (s : Delivery) (a : Answer) (i : ℕ) (old new : Reassembled) → place_of rs (key_of peer s) ≡ Some i → old ≡ get_or rs i old → Takes old s a new → OnErr a (new ≡ old) → DeskTakes rs peer s a (set rs i new)
takes_open rs peer s a i old new h is t err = by_answer a t err
  where
    room : is_full_for rs (key_of peer s) ≡ false
    room = has_room_open rs (key_of peer s) i h

    key : old.key ≡ key_of peer s
    key = ap (λ (x : Reassembled). x.key) is ∙ (found rs (key_of peer s) i h).key old

    table : old.table ≡ held_of rs (key_of peer s)
    table = ap (λ (x : Reassembled). x.table) is ∙ sym (ap (λ (o : Option Table). unwrap_or o empty_table) ((found rs (key_of peer s) i h).table old))

    same : new ≡ old → set rs i new ≡ rs
    same e = ap (λ (x : Reassembled). set rs i x) (e ∙ is) ∙ set-get_or rs i old

    fault : (b : Answer) → b ≡ answer old.table s → new.table ≡ with_next old.table s → new ≡ old → (b ≡ answer (held_of rs (key_of peer s)) s) × (held_of rs (key_of peer s) ≡ with_next (held_of rs (key_of peer s)) s)
    fault b j k e = (
      j ∙ ap (λ (m : Table). answer m s) (ap (λ (x : Reassembled). x.table) is ∙ sym (ap (λ (o : Option Table). unwrap_or o empty_table) ((found rs (key_of peer s) i h).table old))),
      subst (λ (m : Table). m ≡ with_next m s) (ap (λ (x : Reassembled). x.table) is ∙ sym (ap (λ (o : Option Table). unwrap_or o empty_table) ((found rs (key_of peer s) i h).table old))) (sym (ap (λ (x : Reassembled). x.table) e) ∙ k),
    )

    by_answer : (b : Answer) → Takes old s b new → OnErr b (new ≡ old) → DeskTakes rs peer s b (set rs i new)
    by_answer (Ok x) t e = (room, (t.1.0 ∙ ap (λ (m : Table). answer m s) table, refl), (found rs (key_of peer s) i h).puts new (t.2 ∙ key) ∙ ap (λ (m : Table). put rs (key_of peer s) m) (t.1.1 ∙ ap (λ (m : Table). with_next m s) table))
    by_answer (Err OtherKey) t e = absurd (t.0 (ap (λ (q : Key). key_of q.peer s) key ∙ sym key))
    by_answer (Err DeskFull) t e = absurd t
    by_answer (Err OutOfMemory) t e = (room, (subst (λ (m : Table). may_add m s ≡ true) table t.1.0, refl), same e)
    by_answer (Err Conflict) t e = (room, fault (Err Conflict) t.1.0 t.1.1 e, same e)
    by_answer (Err PastEnd) t e = (room, fault (Err PastEnd) t.1.0 t.1.1 e, same e)
    by_answer (Err TooLarge) t e = (room, fault (Err TooLarge) t.1.0 t.1.1 e, same e)

held_lost : (rs : List Reassembled) (k : Key) → place_of rs k ≡ None → held_of rs k ≡ empty_table
held_lost rs k h = ap (λ (o : Option Table). unwrap_or o empty_table) (lost rs k empty_table h).0

pub takes_new : (rs : List Reassembled) (peer : ℕ) (s : Delivery) (x : Taken) (new : Reassembled) → length rs < 8 → place_of rs (key_of peer s) ≡ None → Takes (opened (key_of peer s)) s (Ok x) new → DeskTakes rs peer s (Ok x) (rs ++ new ∷ [])
takes_new rs peer s x new l h t =
    let none = sym (held_lost rs (key_of peer s) h) in (
      has_room_few rs (key_of peer s) l,
      (t.1.0 ∙ ap (λ (m : Table). answer m s) none, refl),
      ap (λ (q : Key). rs ++ (let y : Reassembled = record { key = q; table = new.table } in y) ∷ []) t.2
          ∙ ap (λ (m : Table). rs ++ (let y : Reassembled = record { key = key_of peer s; table = m } in y) ∷ []) (t.1.1 ∙ ap (λ (m : Table). with_next m s) none)
          ∙ sym (lost rs (key_of peer s) (with_next (held_of rs (key_of peer s)) s) h).1,
    )

pub fault_new : (rs : List Reassembled) (peer : ℕ) (s : Delivery) (f : TakeFault) → length rs < 8 → place_of rs (key_of peer s) ≡ None → Keeps empty_table s (Err f) empty_table → (f ≡ OtherKey → ⊥) → (f ≡ DeskFull → ⊥) → DeskTakes rs peer s (Err f) rs
fault_new rs peer s f l h k o n = by_fault f (subst (λ (m : Table). Keeps m s (Err f) m) (sym (held_lost rs (key_of peer s) h)) k) o n
  where
    room : is_full_for rs (key_of peer s) ≡ false
    room = has_room_few rs (key_of peer s) l

    by_fault : (g : TakeFault) → Keeps (held_of rs (key_of peer s)) s (Err g) (held_of rs (key_of peer s)) → (g ≡ OtherKey → ⊥) → (g ≡ DeskFull → ⊥) → DeskTakes rs peer s (Err g) rs
    by_fault DeskFull j o n = absurd (n refl)
    by_fault OtherKey j o n = absurd (o refl)
    by_fault OutOfMemory j o n = (room, j, refl)
    by_fault Conflict j o n = (room, j, refl)
    by_fault PastEnd j o n = (room, j, refl)
    by_fault TooLarge j o n = (room, j, refl)

pub memory_new : (rs : List Reassembled) (peer : ℕ) (s : Delivery) → length rs < 8 → place_of rs (key_of peer s) ≡ None → may_add empty_table s ≡ true → DeskTakes rs peer s (Err OutOfMemory) rs
memory_new rs peer s l h m = (has_room_few rs (key_of peer s) l, (subst (λ (t : Table). may_add t s ≡ true) (sym (held_lost rs (key_of peer s) h)) m, refl), refl)

pub at_view : (rs view : List Reassembled) (k key : Key) (o p : Option ℕ) → rs ≡ view → k ≡ key → o ≡ place_of rs k → o ≡ p → place_of view key ≡ p
at_view rs view k key o p e f g h = ap (λ (t : List Reassembled). place_of t key) (sym e) ∙ ap (λ (q : Key). place_of rs q) (sym f) ∙ sym g ∙ h

pub pushed : {T E : Type 0} (r : Result T E) (e : Bool) (new xs ys : List Reassembled) → e ≡ is_err r → e ≡ false → new ≡ cond (is_ok r) xs ys → new ≡ xs
pushed (Ok x) e new xs ys i j k = k
pushed (Err x) e new xs ys i j k = absurd (let t : true ≡ false = sym i ∙ j in cc)

pub not_pushed : {T E : Type 0} (r : Result T E) (e : Bool) (new xs ys : List Reassembled) → e ≡ is_err r → e ≡ true → new ≡ cond (is_ok r) xs ys → new ≡ ys
not_pushed (Err x) e new xs ys i j k = k
not_pushed (Ok x) e new xs ys i j k = absurd (let t : true ≡ false = sym j ∙ i in cc)

-- ---- the first segment of a key

none_above : (n k : ℕ) → list_any is_some (drop k (let m : Table = replicate n None in m)) ≡ false
none_above zero zero = refl
none_above zero (suc k) = refl
none_above (suc n) zero = none_above n zero
none_above (suc n) (suc k) = none_above n k

none_below : (n k : ℕ) → list_any is_last (take k (let m : Table = replicate n None in m)) ≡ false
none_below n zero = refl
none_below zero (suc k) = refl
none_below (suc n) (suc k) = none_below n k

none_here : (n k : ℕ) → get_or (let m : Table = replicate n None in m) k None ≡ None
none_here zero k = refl
none_here (suc n) zero = refl
none_here (suc n) (suc k) = none_here n k

none_joined : (n : ℕ) → length (joined (replicate n None)) ≡ 0
none_joined zero = refl
none_joined (suc n) = none_joined n

record Empty (s : Delivery) : Type 0 where
  free : entry_at empty_table s.seq ≡ None
  early : (not s.more && is_held_above empty_table s.seq) ≡ false
  below : is_ended_below empty_table s.seq ≡ false
  octets : length (joined empty_table) ≡ 0

empty_for : (s : Delivery) → Empty s
unfolding empty_table
empty_for s = record {
  free = none_here 256 s.seq;
  early = ap (λ (b : Bool). not s.more && b) (none_above 256 (s.seq + 1)) ∙ and_false (not s.more);
  below = none_below 256 s.seq;
  octets = none_joined 256;
}

past_is : (s : Delivery) (b : Bool) → (s.more && eqb s.seq 255) ≡ b → (is_ended_below empty_table s.seq || (s.more && eqb s.seq 255)) ≡ b
past_is s b h = ap (λ (x : Bool). x || (s.more && eqb s.seq 255)) (empty_for s).below ∙ h

pub first_past : (s : Delivery) → (s.more && eqb s.seq 255) ≡ true → Keeps empty_table s (Err PastEnd) empty_table
first_past s h = keeps_fault empty_table s PastEnd (past_end empty_table s (empty_for s).free (empty_for s).early (past_is s true h))

pub first_large : (s : Delivery) → (s.more && eqb s.seq 255) ≡ false → 65535 < length s.piece → Keeps empty_table s (Err TooLarge) empty_table
first_large s h l = keeps_fault empty_table s TooLarge (too_large empty_table s (empty_for s).free (empty_for s).early (past_is s false h) (lt-leb _ _ (omega (arith, l))))

pub first_fits : (s : Delivery) → (s.more && eqb s.seq 255) ≡ false → length s.piece ≤ 65535 → may_add empty_table s ≡ true
first_fits s h l = (is_new empty_table s (empty_for s).free (empty_for s).early (past_is s false h) (le-leb _ _ (omega (arith, (empty_for s).octets, l)))).0

-- ---- closing

was_none : (o : Option ℕ) → option_map (λ j. suc j) o ≡ None → o ≡ None
was_none None g = refl
was_none (Some j) g = absurd (let e : Some (suc j) ≡ None = g in cc)

pub closed_none : (rs : List Reassembled) (k : Key) → table_of_key rs k ≡ None → closed rs k ≡ rs
closed_none [] k h = refl
closed_none (r ∷ rs) k h = by_same (same_key r.key k) h (λ e. closed_none rs k e)
  where
    by_same : (b : Bool) → cond b (Some r.table) (table_of_key rs k) ≡ None → (table_of_key rs k ≡ None → closed rs k ≡ rs) → cond b (closed rs k) (r ∷ closed rs k) ≡ r ∷ rs
    by_same true g rec = absurd (let t : Some r.table ≡ None = g in cc)
    by_same false g rec = ap (λ (t : List Reassembled). r ∷ t) (rec g)

pub closed_lost : (rs : List Reassembled) (k : Key) → place_of rs k ≡ None → closed rs k ≡ rs
closed_lost rs k h = closed_none rs k (lost rs k empty_table h).0

pub closed_remove : (rs : List Reassembled) (k : Key) (i : ℕ) → AreApart rs → place_of rs k ≡ Some i → remove rs i ≡ closed rs k
closed_remove [] k i apart h = absurd (let e : None ≡ Some i = h in cc)
closed_remove (r ∷ rs) k i apart h = by_same (same_key r.key k) refl h (λ j e. closed_remove rs k j apart.1 e)
  where
    by_same : (b : Bool) → same_key r.key k ≡ b → cond b (Some 0) (option_map (λ j. suc j) (place_of rs k)) ≡ Some i → ((j : ℕ) → place_of rs k ≡ Some j → remove rs j ≡ closed rs k) → remove (r ∷ rs) i ≡ cond b (closed rs k) (r ∷ closed rs k)
    by_same true e g rec = let z : 0 ≡ i = (let t : Some 0 ≡ Some i = g in cc) in ap (λ (n : ℕ). remove (r ∷ rs) n) (sym z) ∙ sym (closed_none rs k (ap (λ (q : Key). table_of_key rs q) (sym (key_same r.key k e)) ∙ apart.0))
    by_same false e g rec = let w = was_suc (place_of rs k) i g in ap (λ (n : ℕ). remove (r ∷ rs) n) w.2 ∙ ap (λ (t : List Reassembled). r ∷ t) (rec w.0 w.1)

pub open_found : (rs : List Reassembled) (k : Key) (i : ℕ) → place_of rs k ≡ Some i → is_open rs k ≡ true
open_found rs k i h = ap (λ (o : Option Table). is_some o) ((found rs k i h).table (record { key = k; table = empty_table }))

pub open_lost : (rs : List Reassembled) (k : Key) → place_of rs k ≡ None → is_open rs k ≡ false
open_lost rs k h = ap (λ (o : Option Table). is_some o) (lost rs k empty_table h).0

-- ---- what stays so

other_way : (a b : Key) → same_key a b ≡ false → same_key b a ≡ false
other_way a b h = by_same (same_key b a) refl
  where
    by_same : (x : Bool) → same_key b a ≡ x → x ≡ false
    by_same false e = refl
    by_same true e = let t : true ≡ false = sym (same_self a) ∙ ap (λ (k : Key). same_key a k) (sym (key_same b a e)) ∙ h in absurd (let u : true ≡ false = t in cc)

apart_put : (rs : List Reassembled) (k : Key) (m : Table) → AreApart rs → AreApart (put rs k m)
apart_put [] k m h = (refl, tt)
apart_put (r ∷ rs) k m h = by_same (same_key r.key k) refl (apart_put rs k m h.1)
  where
    by_same : (b : Bool) → same_key r.key k ≡ b → AreApart (put rs k m) → AreApart (cond b (record { key = k; table = m } ∷ rs) (r ∷ put rs k m))
    by_same true e rec = (ap (λ (q : Key). table_of_key rs q) (sym (key_same r.key k e)) ∙ h.0, h.1)
    by_same false e rec = (put_other rs k r.key m (other_way r.key k e) ∙ h.0, rec)

apart_closed : (rs : List Reassembled) (k : Key) → AreApart rs → AreApart (closed rs k)
apart_closed [] k h = tt
apart_closed (r ∷ rs) k h = by_same (same_key r.key k) refl (apart_closed rs k h.1)
  where
    by_same : (b : Bool) → same_key r.key k ≡ b → AreApart (closed rs k) → AreApart (cond b (closed rs k) (r ∷ closed rs k))
    by_same true e rec = rec
    by_same false e rec = (closed_other rs k r.key (other_way r.key k e) ∙ h.0, rec)

abbrev IsUsed : Table → Type 0
IsUsed m = (length m ≡ 256) × (holds_any m ≡ true)

used_put : (rs : List Reassembled) (k : Key) (m : Table) → IsUsed m → AllByRecursion (λ r. IsUsed r.table) rs → AllByRecursion (λ r. IsUsed r.table) (put rs k m)
used_put [] k m u h = (u, tt)
used_put (r ∷ rs) k m u h = by_same (same_key r.key k) (used_put rs k m u h.1)
  where
    by_same : (b : Bool) → AllByRecursion (λ x. IsUsed x.table) (put rs k m) → AllByRecursion (λ x. IsUsed x.table) (cond b (record { key = k; table = m } ∷ rs) (r ∷ put rs k m))
    by_same true rec = (u, h.1)
    by_same false rec = (h.0, rec)

pub used_closed : (rs : List Reassembled) (k : Key) → AllByRecursion (λ r. IsUsed r.table) rs → AllByRecursion (λ r. IsUsed r.table) (closed rs k)
used_closed [] k h = tt
used_closed (r ∷ rs) k h = by_same (same_key r.key k) (used_closed rs k h.1)
  where
    by_same : (b : Bool) → AllByRecursion (λ x. IsUsed x.table) (closed rs k) → AllByRecursion (λ x. IsUsed x.table) (cond b (closed rs k) (r ∷ closed rs k))
    by_same true rec = rec
    by_same false rec = (h.0, rec)

pub length_put : (rs : List Reassembled) (k : Key) (m : Table) → length (put rs k m) ≡ cond (is_none (table_of_key rs k)) (length rs + 1) (length rs)
length_put [] k m = refl
length_put (r ∷ rs) k m = by_same (same_key r.key k) (length_put rs k m)
  where
    by_none : (b : Bool) (x n : ℕ) → x ≡ cond b (n + 1) n → suc x ≡ cond b (suc n + 1) (suc n)
    by_none true x n h = omega (arith, h)
    by_none false x n h = ap (λ (k : ℕ). suc k) h

    by_same : (b : Bool) → length (put rs k m) ≡ cond (is_none (table_of_key rs k)) (length rs + 1) (length rs) → length (cond b (record { key = k; table = m } ∷ rs) (r ∷ put rs k m)) ≡ cond (is_none (cond b (Some r.table) (table_of_key rs k))) (length (r ∷ rs) + 1) (length (r ∷ rs))
    by_same true rec = refl
    by_same false rec = by_none (is_none (table_of_key rs k)) (length (put rs k m)) (length rs) rec

pub length_closed : (rs : List Reassembled) (k : Key) → length (closed rs k) ≤ length rs
length_closed [] k = omega arith
length_closed (r ∷ rs) k = by_same (same_key r.key k) (length_closed rs k)
  where
    by_same : (b : Bool) → length (closed rs k) ≤ length rs → length (cond b (closed rs k) (r ∷ closed rs k)) ≤ length (r ∷ rs)
    by_same true l = omega (arith, l)
    by_same false l = omega (arith, l)

any_set : (n : ℕ) (m : Table) (e : Entry) → n < length m → holds_any (set m n (Some e)) ≡ true
any_set n [] e l = absurd (omega arith)
any_set zero (x ∷ m) e l = refl
any_set (suc n) (None ∷ m) e l = any_set n m e (omega arith)
any_set (suc n) (Some f ∷ m) e l = refl

any_at : (n : ℕ) (m : Table) (e : Entry) → get_or m n None ≡ Some e → holds_any m ≡ true
any_at n [] e h = absurd (let i : None ≡ Some e = h in cc)
any_at zero (None ∷ m) e h = absurd (let i : None ≡ Some e = h in cc)
any_at zero (Some f ∷ m) e h = refl
any_at (suc n) (None ∷ m) e h = any_at n m e h
any_at (suc n) (Some f ∷ m) e h = refl

pub length_next : (m : Table) (s : Delivery) → length (with_next m s) ≡ length m
length_next m s = by_add (may_add m s)
  where
    by_add : (b : Bool) → length (cond b (with_segment m s) m) ≡ length m
    by_add true = length-set m s.seq _
    by_add false = refl

pub empty_places : length empty_table ≡ 256
unfolding empty_table
empty_places = length-replicate 256 none
  where
    none : Option Entry
    none = None

places_of : (rs : List Reassembled) (k : Key) → AllByRecursion (λ r. IsUsed r.table) rs → length (held_of rs k) ≡ 256
places_of [] k h = empty_places
places_of (r ∷ rs) k h = by_same (same_key r.key k) (places_of rs k h.1)
  where
    by_same : (b : Bool) → length (held_of rs k) ≡ 256 → length (unwrap_or (cond b (Some r.table) (table_of_key rs k)) empty_table) ≡ 256
    by_same true l = h.0.0
    by_same false l = l

taken_used : (m : Table) (s : Delivery) (t : Taken) → s.seq < length m → (let a : Answer = Ok t in a) ≡ answer m s → holds_any (with_next m s) ≡ true
taken_used m s t l h = let j = judged_somehow m s in by_judged j.0 j.1
  where
    by_entry : (o : Option Entry) → entry_at m s.seq ≡ o → may_add m s ≡ false → answer m s ≡ Ok Repeat → holds_any m ≡ true
    by_entry (Some e) i f r = any_at s.seq m e i
    by_entry None i f r = absurd (no_repeat m s i r)

    by_judged : (r : Result Bool TakeFault) → Judges m s r → holds_any (with_next m s) ≡ true
    by_judged (Ok true) j = ap (λ (b : Bool). holds_any (cond b (with_segment m s) m)) j.0 ∙ any_set s.seq m _ l
    by_judged (Ok false) j = ap (λ (b : Bool). holds_any (cond b (with_segment m s) m)) j.0 ∙ by_entry (entry_at m s.seq) refl j.0 j.1
    by_judged (Err f) j = absurd (let a : Answer = Ok t in let b : Answer = Err f in let i : a ≡ b = h ∙ j.1 in cc)

nothing_held : holds_any empty_table ≡ false
unfolding empty_table
nothing_held = none_any 256
  where
    none_any : (n : ℕ) → list_any is_some (let m : Table = replicate n None in m) ≡ false
    none_any zero = refl
    none_any (suc n) = none_any n

few_put : (rs : List Reassembled) (k : Key) (m : Table) (b : Bool) → is_none (table_of_key rs k) ≡ b → is_full_for rs k ≡ false → length rs ≤ 8 → length (put rs k m) ≤ 8
few_put rs k m false e f l = omega (arith, length_put rs k m ∙ ap (λ (x : Bool). cond x (length rs + 1) (length rs)) e, l)
few_put rs k m true e f l =
    let r : leb 8 (length rs) ≡ false = sym (ap (λ (x : Bool). x && leb 8 (length rs)) e) ∙ f in
    omega (arith, length_put rs k m ∙ ap (λ (x : Bool). cond x (length rs + 1) (length rs)) e, leb-false 8 (length rs) r)

pub desk_takes : (old new : List Reassembled) (peer : ℕ) (s : Delivery) (a : Answer) → IsDesk old → DeskTakes old peer s a new → IsDesk new
desk_takes old new peer s (Ok t) d h =
    let k = key_of peer s in
    let m = with_next (held_of old k) s in
    subst IsDesk (sym h.2) (record { apart = apart_put old k m d.apart; few = few_put old k m (is_none (table_of_key old k)) refl h.0 d.few })
desk_takes old new peer s (Err DeskFull) d h = subst IsDesk (sym h.1) d
desk_takes old new peer s (Err OtherKey) d h = absurd h
desk_takes old new peer s (Err Conflict) d h = subst IsDesk (sym h.2) d
desk_takes old new peer s (Err PastEnd) d h = subst IsDesk (sym h.2) d
desk_takes old new peer s (Err TooLarge) d h = subst IsDesk (sym h.2) d
desk_takes old new peer s (Err OutOfMemory) d h = subst IsDesk (sym h.2) d

pub desk_closes : (old : List Reassembled) (k : Key) → IsDesk old → IsDesk (closed old k)
desk_closes old k d = record { apart = apart_closed old k d.apart; few = omega (arith, length_closed old k, d.few) }

pub used_takes : (old new : List Reassembled) (peer : ℕ) (s : Delivery) (a : Answer) → s.seq < 256 → AreUsed old → DeskTakes old peer s a new → AreUsed new
used_takes old new peer s (Ok t) l u h =
    let k = key_of peer s in
    let places = places_of old k u in
    let used = taken_used (held_of old k) s t (omega (arith, l, places)) h.1.0 in
    let next = length_next (held_of old k) s ∙ places in
    subst AreUsed (sym h.2) (used_put old k (with_next (held_of old k) s) (next, used) u)
used_takes old new peer s (Err DeskFull) l u h = subst AreUsed (sym h.1) u
used_takes old new peer s (Err OtherKey) l u h = absurd h
used_takes old new peer s (Err Conflict) l u h = subst AreUsed (sym h.2) u
used_takes old new peer s (Err PastEnd) l u h = subst AreUsed (sym h.2) u
used_takes old new peer s (Err TooLarge) l u h = subst AreUsed (sym h.2) u
used_takes old new peer s (Err OutOfMemory) l u h = subst AreUsed (sym h.2) u

-- a key is open exactly where something is held of it
pub open_used : (rs : List Reassembled) (k : Key) → AreUsed rs → is_open rs k ≡ holds_any (held_of rs k)
open_used [] k h = sym nothing_held
open_used (r ∷ rs) k h = by_same (same_key r.key k) (open_used rs k h.1)
  where
    by_same : (b : Bool) → is_open rs k ≡ holds_any (held_of rs k) → is_some (cond b (Some r.table) (table_of_key rs k)) ≡ holds_any (unwrap_or (cond b (Some r.table) (table_of_key rs k)) empty_table)
    by_same true rec = sym h.0.1
    by_same false rec = rec
