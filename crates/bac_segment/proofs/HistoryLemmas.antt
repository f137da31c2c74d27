-- Laws over lists of deliveries.
use Rattle.std.proofs.Common.{◌≡◌, ℕ, zero, suc, Bool, true, false, not, cond, Option, Some, None, Ok, Err, List, [], ◌∷◌, ◌++◌, take, get_or, refl, sym, ap, ◌∙◌, subst, ◌||◌}
use Rattle.std.specs.Prelude.{is_some}
use Rattle.std.specs.Option.{option_map}
use Rattle.std.specs.List.{fold, list_any, AllByRecursion}
use Rattle.bac_segment.specs.declared.keys.Key.{Key}
use Rattle.bac_segment.specs.declared.faults.Taken.{Taken}
use Rattle.bac_segment.specs.declared.faults.Taken.TheVariants.{Complete}
use Rattle.bac_segment.specs.declared.faults.TakeFault.{TakeFault}
use Rattle.bac_segment.specs.declared.faults.TakeFault.TheVariants.{OtherKey, Conflict, PastEnd, TooLarge, OutOfMemory, DeskFull}
use Rattle.bac_segment.specs.Deliveries.{Delivery, key_of}
use Rattle.bac_segment.specs.Tables.{Table, is_last, whole, with_segment}
use Rattle.bac_segment.specs.Taking.{Answer, counts, answer, may_add, with_next, held}
use Rattle.bac_segment.specs.Reassembled.{Reassembled, Takes, opened}
use Rattle.bac_segment.specs.Histories.{Delivers, counted, IsAnswer}
use Rattle.bac_segment.proofs.HoldingLemmas.{can_add}
use Rattle.bac_segment.proofs.JudgeLemmas.{kept_where, complete_adds}

-- what a step leaves, and what its answer is
pub record Stepped (old : Reassembled) (s : Delivery) (a : Answer) (new : Reassembled) : Type 0 where
  pub key : new.key ≡ old.key
  pub table : new.table ≡ cond (counts a) (with_next old.table s) old.table
  pub is_answer : IsAnswer old.key old.table s a
  pub of_key : counts a ≡ true → key_of old.key.peer s ≡ old.key

no_err : {P : Type 0} (t : Taken) (f : TakeFault) → (let a : Answer = Ok t in a) ≡ Err f → P
no_err t f i = absurd (let a : Answer = Ok t in let b : Answer = Err f in let j : a ≡ b = i in cc)

not_fault : {P : Type 0} (e f : TakeFault) → (e ≡ f → P) → (let a : Answer = Err e in a) ≡ Err f → P
not_fault e f k i = k (let a : Answer = Err e in let b : Answer = Err f in let j : a ≡ b = i in cc)

by_table : (old : Reassembled) (s : Delivery) (a : Answer) (new : Reassembled) → key_of old.key.peer s ≡ old.key → a ≡ answer old.table s → new.table ≡ with_next old.table s → new.key ≡ old.key → counts a ≡ true → (a ≡ Err OtherKey → ⊥) → (a ≡ Err OutOfMemory → ⊥) → (a ≡ Err DeskFull → ⊥) → Stepped old s a new
by_table old s a new k is t kept c o m f = record {
  key = kept;
  table = t ∙ ap (λ (b : Bool). cond b (with_next old.table s) old.table) (sym c);
  is_answer = record {
    other_key = (λ i. absurd (o i), λ h. absurd (h k));
    by_table = λ i. is;
    memory = λ i. absurd (m i);
    not_full = f;
  };
  of_key = λ i. k;
}

pub stepped : (old : Reassembled) (s : Delivery) (a : Answer) (new : Reassembled) → Takes old s a new → Stepped old s a new
stepped old s (Ok t) new h = by_table old s (Ok t) new h.0 h.1.0 h.1.1 h.2 refl (no_err t OtherKey) (no_err t OutOfMemory) (no_err t DeskFull)
stepped old s (Err OtherKey) new h = record {
  key = ap (λ (r : Reassembled). r.key) h.1;
  table = ap (λ (r : Reassembled). r.table) h.1;
  is_answer = record {
    other_key = (λ i. h.0, λ i. refl);
    by_table = λ i. absurd (let j : false ≡ true = i in cc);
    memory = not_fault OtherKey OutOfMemory (λ i. absurd (let j : OtherKey ≡ OutOfMemory = i in cc));
    not_full = not_fault OtherKey DeskFull (λ i. let j : OtherKey ≡ DeskFull = i in cc);
  };
  of_key = λ i. absurd (let j : false ≡ true = i in cc);
}
stepped old s (Err OutOfMemory) new h = record {
  key = h.2;
  table = h.1.1;
  is_answer = record {
    other_key = (not_fault OutOfMemory OtherKey (λ i. absurd (let j : OutOfMemory ≡ OtherKey = i in cc)), λ i. absurd (i h.0));
    by_table = λ i. absurd (let j : false ≡ true = i in cc);
    memory = λ i. kept_where old.table s h.1.0;
    not_full = not_fault OutOfMemory DeskFull (λ i. let j : OutOfMemory ≡ DeskFull = i in cc);
  };
  of_key = λ i. h.0;
}
stepped old s (Err Conflict) new h = by_table old s (Err Conflict) new h.0 h.1.0 h.1.1 h.2 refl (not_fault Conflict OtherKey (λ i. let j : Conflict ≡ OtherKey = i in cc)) (not_fault Conflict OutOfMemory (λ i. let j : Conflict ≡ OutOfMemory = i in cc)) (not_fault Conflict DeskFull (λ i. let j : Conflict ≡ DeskFull = i in cc))
stepped old s (Err PastEnd) new h = by_table old s (Err PastEnd) new h.0 h.1.0 h.1.1 h.2 refl (not_fault PastEnd OtherKey (λ i. let j : PastEnd ≡ OtherKey = i in cc)) (not_fault PastEnd OutOfMemory (λ i. let j : PastEnd ≡ OutOfMemory = i in cc)) (not_fault PastEnd DeskFull (λ i. let j : PastEnd ≡ DeskFull = i in cc))
stepped old s (Err TooLarge) new h = by_table old s (Err TooLarge) new h.0 h.1.0 h.1.1 h.2 refl (not_fault TooLarge OtherKey (λ i. let j : TooLarge ≡ OtherKey = i in cc)) (not_fault TooLarge OutOfMemory (λ i. let j : TooLarge ≡ OutOfMemory = i in cc)) (not_fault TooLarge DeskFull (λ i. let j : TooLarge ≡ DeskFull = i in cc))
stepped old s (Err DeskFull) new h = absurd h

pub counted_held : (old new : Reassembled) (calls : List (Delivery × Answer)) → Delivers old calls new → (new.key ≡ old.key) × (new.table ≡ fold with_next old.table (counted calls))
counted_held old new [] h = (ap (λ (r : Reassembled). r.key) h, ap (λ (r : Reassembled). r.table) h)
counted_held old new (call ∷ calls) h =
    let rest = counted_held h.0 new calls h.2 in
    let s = stepped old call.0 call.1 h.0 h.1 in
    (rest.0 ∙ s.key, rest.1 ∙ ap (λ (m : Table). fold with_next m (counted calls)) s.table ∙ by_count (counts call.1))
  where
    by_count : (b : Bool) → fold with_next (cond b (with_next old.table call.0) old.table) (counted calls) ≡ fold with_next old.table (cond b (call.0 ∷ counted calls) (counted calls))
    by_count true = refl
    by_count false = refl

-- the first calls, and one more
pub parted : (old new : Reassembled) (before after : List (Delivery × Answer)) → Delivers old (before ++ after) new → (mid : Reassembled) × Delivers old before mid × Delivers mid after new
parted old new [] after h = (old, refl, h)
parted old new (call ∷ before) after h =
    let rest = parted h.0 new before after h.2 in
    (rest.0, (h.0, h.1, rest.1), rest.2)

pub answered : (key : Key) (before after : List (Delivery × Answer)) (s : Delivery) (a : Answer) (r : Reassembled) → Delivers (opened key) (before ++ (s, a) ∷ after) r → IsAnswer key (held (counted before)) s a
answered key before after s a r h =
    let p = parted (opened key) r before ((s, a) ∷ after) h in
    let q = counted_held (opened key) p.0 before p.1 in
    let one = (stepped p.0 s a p.2.0 p.2.1).is_answer in
    subst (λ (k : Key). IsAnswer k (held (counted before)) s a) q.0 (subst (λ (m : Table). IsAnswer p.0.key m s a) q.1 one)

-- ---- a whole message stays

-- all up to a last piece are held: a free number stands behind the last
behind : (q : ℕ) (m : Table) → is_some (whole m) ≡ true → get_or m q None ≡ None → list_any is_last (take q m) ≡ true
behind q [] w f = absurd (let i : false ≡ true = w in cc)
behind q (None ∷ m) w f = absurd (let i : false ≡ true = w in cc)
behind zero (Some e ∷ m) w f = absurd (let i : Some e ≡ None = f in cc)
behind (suc q) (Some e ∷ m) w f = by_more e.more w (λ i. behind q m i f)
  where
    mapped : (o : Option (List ℕ)) → is_some (option_map (λ rest. e.piece ++ rest) o) ≡ true → is_some o ≡ true
    mapped None i = i
    mapped (Some r) i = refl

    by_more : (b : Bool) → is_some (cond b (option_map (λ rest. e.piece ++ rest) (whole m)) (Some e.piece)) ≡ true → (is_some (whole m) ≡ true → list_any is_last (take q m) ≡ true) → (not b || list_any is_last (take q m)) ≡ true
    by_more true i rec = rec (mapped (whole m) i)
    by_more false i rec = refl

no_more : (m : Table) (s : Delivery) → is_some (whole m) ≡ true → may_add m s ≡ false
no_more m s w = of_true (may_add m s) (λ h. let can = can_add m s h in let j : true ≡ false = sym (behind s.seq m w can.free) ∙ can.below in cc)
  where
    of_true : (b : Bool) → (b ≡ true → ⊥) → b ≡ false
    of_true true n = absurd (n refl)
    of_true false n = refl

stays_next : (m : Table) (s : Delivery) → is_some (whole m) ≡ true → with_next m s ≡ m
stays_next m s w = ap (λ (b : Bool). cond b (with_segment m s) m) (no_more m s w)

stays_step : (m : Table) (s : Delivery) (b : Bool) → is_some (whole m) ≡ true → cond b (with_next m s) m ≡ m
stays_step m s true w = stays_next m s w
stays_step m s false w = refl

pub whole_stays : (old new : Reassembled) (calls : List (Delivery × Answer)) (octets : List ℕ) → whole old.table ≡ Some octets → Delivers old calls new → (whole new.table ≡ Some octets) × AllByRecursion (λ c. c.1 ≡ Ok Complete → ⊥) calls
whole_stays old new [] octets w h = (ap (λ (r : Reassembled). whole r.table) h ∙ w, tt)
whole_stays old new (call ∷ calls) octets w h =
    let s = stepped old call.0 call.1 h.0 h.1 in
    let is : is_some (whole old.table) ≡ true = ap (λ (o : Option (List ℕ)). is_some o) w in
    let rest = whole_stays h.0 new calls octets (ap whole (s.table ∙ stays_step old.table call.0 (counts call.1) is) ∙ w) h.2 in
    (rest.0, ((λ c. let t = complete_adds old.table call.0 (sym (s.is_answer.by_table (ap counts c)) ∙ c) in let j : true ≡ false = sym t ∙ no_more old.table call.0 is in cc), rest.1))

-- deliveries behind others
pub delivers_on : (old mid new : Reassembled) (calls more : List (Delivery × Answer)) → Delivers old calls mid → Delivers mid more new → Delivers old (calls ++ more) new
delivers_on old mid new [] more h k = subst (λ (r : Reassembled). Delivers r more new) h k
delivers_on old mid new (call ∷ calls) more h k = (h.0, h.1, delivers_on h.0 mid new calls more h.2 k)
