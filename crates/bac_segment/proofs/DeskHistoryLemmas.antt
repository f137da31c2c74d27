-- Laws over the calls of a desk.
use Rattle.std.specs.Prelude.{Some, None, is_some, is_none, is_ok}
use Rattle.std.proofs.Common.{◌≡◌, ◌≢◌, ◌↔◌, ◌⊎◌, ◌≤◌, ◌<◌, ℕ, suc, Bool, true, false, cond, leb, ◌&&◌, Option, Ok, Err, List, [], ◌∷◌, ◌++◌, length, refl, sym, ap, ◌∙◌, subst, arith}
use Rattle.std.specs.List.{AllByRecursion}
use Rattle.std.specs.Option.{unwrap_or}
use Rattle.std.proofs.lemmas.Bool.{le-leb, leb-true}
use Rattle.bac_segment.specs.declared.keys.Key.{Key}
use Rattle.bac_segment.specs.declared.cutting.CutPlan.{CutPlan}
use Rattle.bac_segment.specs.declared.faults.Taken.{Taken}
use Rattle.bac_segment.specs.declared.faults.Taken.TheVariants.{Complete}
use Rattle.bac_segment.specs.declared.faults.TakeFault.{TakeFault}
use Rattle.bac_segment.specs.declared.faults.TakeFault.TheVariants.{OtherKey, Conflict, PastEnd, TooLarge, OutOfMemory, DeskFull}
use Rattle.bac_segment.specs.Deliveries.{Delivery, key_of}
use Rattle.bac_segment.specs.Tables.{Table, empty_table, whole, holds_any}
use Rattle.bac_segment.specs.Taking.{Answer, IsKept, counts, answer, with_next, held}
use Rattle.bac_segment.specs.Pieces.{IsCutOf, cut_fault}
use Rattle.bac_segment.specs.Cuts.{IsOneOf, AreAmong, IsGood}
use Rattle.bac_segment.specs.Reassembled.{Reassembled}
use Rattle.bac_segment.specs.Desks.{same_key, table_of_key, is_open, held_of, is_full_for, put, closed, AreApart, IsDesk, AreUsed, DeskTakes}
use Rattle.bac_segment.specs.DeskHistories.{DeskCall, taken, closing, DeskRuns, part_from, part, counts_after, since_opened_from, since_opened, is_held, AreDistinct, EightOthers, IsDeskAnswer}
use Rattle.bac_segment.proofs.JudgeLemmas.{kept_where}
use Rattle.bac_segment.proofs.JoinLemmas.{held_more, cut_gives, cut_answered, cut_completed, good_by}
use Rattle.bac_segment.proofs.DeskLemmas.{key_same, same_self, put_same, put_other, closed_same, closed_other, used_closed, used_takes, desk_takes, desk_closes, open_used}

-- ---- one call

stays : (b : Bool) (m n : Table) → n ≡ cond (b && false) m n
stays true m n = refl
stays false m n = refl

same_after : (old mid : List Reassembled) (k q : Key) (s : Delivery) → mid ≡ old → held_of old k ≡ with_next (held_of old k) s → (b : Bool) → same_key k q ≡ b → held_of mid q ≡ cond (b && true) (with_next (held_of old q) s) (held_of old q)
same_after old mid k q s e n true i = ap (λ (d : List Reassembled). held_of d q) e ∙ subst (λ (x : Key). held_of old x ≡ with_next (held_of old x) s) (key_same k q i) n
same_after old mid k q s e n false i = ap (λ (d : List Reassembled). held_of d q) e

put_after : (old : List Reassembled) (k q : Key) (s : Delivery) (b : Bool) → same_key k q ≡ b → held_of (put old k (with_next (held_of old k) s)) q ≡ cond (b && true) (with_next (held_of old q) s) (held_of old q)
put_after old k q s true i = subst (λ (x : Key). held_of (put old k (with_next (held_of old k) s)) x ≡ with_next (held_of old x) s) (key_same k q i) (ap (λ (t : Option Table). unwrap_or t empty_table) (put_same old k (with_next (held_of old k) s)))
put_after old k q s false i = ap (λ (t : Option Table). unwrap_or t empty_table) (put_other old k q (with_next (held_of old k) s) i)

desk_step : (old mid : List Reassembled) (peer : ℕ) (s : Delivery) (a : Answer) (q : Key) → DeskTakes old peer s a mid → held_of mid q ≡ cond (same_key (key_of peer s) q && counts a) (with_next (held_of old q) s) (held_of old q)
desk_step old mid peer s (Ok t) q h = ap (λ (d : List Reassembled). held_of d q) h.2 ∙ put_after old (key_of peer s) q s (same_key (key_of peer s) q) refl
desk_step old mid peer s (Err DeskFull) q h = ap (λ (d : List Reassembled). held_of d q) h.1 ∙ stays (same_key (key_of peer s) q) (with_next (held_of old q) s) (held_of old q)
desk_step old mid peer s (Err OutOfMemory) q h = ap (λ (d : List Reassembled). held_of d q) h.2 ∙ stays (same_key (key_of peer s) q) (with_next (held_of old q) s) (held_of old q)
desk_step old mid peer s (Err OtherKey) q h = absurd h
desk_step old mid peer s (Err Conflict) q h = same_after old mid (key_of peer s) q s h.2 h.1.1 (same_key (key_of peer s) q) refl
desk_step old mid peer s (Err PastEnd) q h = same_after old mid (key_of peer s) q s h.2 h.1.1 (same_key (key_of peer s) q) refl
desk_step old mid peer s (Err TooLarge) q h = same_after old mid (key_of peer s) q s h.2 h.1.1 (same_key (key_of peer s) q) refl

-- a fault changes nothing
kept_step : (old mid : List Reassembled) (peer : ℕ) (s : Delivery) (a : Answer) (q : Key) → DeskTakes old peer s a mid → held_of mid q ≡ cond (same_key (key_of peer s) q && is_ok a) (with_next (held_of old q) s) (held_of old q)
kept_step old mid peer s (Ok t) q h = desk_step old mid peer s (Ok t) q h
kept_step old mid peer s (Err DeskFull) q h = desk_step old mid peer s (Err DeskFull) q h
kept_step old mid peer s (Err OutOfMemory) q h = desk_step old mid peer s (Err OutOfMemory) q h
kept_step old mid peer s (Err OtherKey) q h = absurd h
kept_step old mid peer s (Err Conflict) q h = ap (λ (d : List Reassembled). held_of d q) h.2 ∙ stays (same_key (key_of peer s) q) (with_next (held_of old q) s) (held_of old q)
kept_step old mid peer s (Err PastEnd) q h = ap (λ (d : List Reassembled). held_of d q) h.2 ∙ stays (same_key (key_of peer s) q) (with_next (held_of old q) s) (held_of old q)
kept_step old mid peer s (Err TooLarge) q h = ap (λ (d : List Reassembled). held_of d q) h.2 ∙ stays (same_key (key_of peer s) q) (with_next (held_of old q) s) (held_of old q)

opened_step : (old mid : List Reassembled) (peer : ℕ) (l : List Delivery) (s : Delivery) (a : Answer) (q : Key) → DeskTakes old peer s a mid → held_of mid q ≡ cond (same_key (key_of peer s) q && counts_after l a) (with_next (held_of old q) s) (held_of old q)
opened_step old mid peer [] s a q h = kept_step old mid peer s a q h
opened_step old mid peer (x ∷ l) s a q h = desk_step old mid peer s a q h

-- ---- all calls

pub held_runs : (old new : List Reassembled) (k : Key) (l : List Delivery) (calls : List DeskCall) → held_of old k ≡ held l → DeskRuns old calls new → held_of new k ≡ held (part_from k l calls)
held_runs old new k l [] e h = ap (λ (d : List Reassembled). held_of d k) h ∙ e
held_runs old new k l (taken peer s a ∷ calls) e h = by_count (same_key (key_of peer s) k && counts a) (desk_step old h.1.0 peer s a k h.1.1) (λ m i. held_runs h.1.0 new k m calls i h.1.2)
  where
    by_count : (b : Bool) → held_of h.1.0 k ≡ cond b (with_next (held_of old k) s) (held_of old k) → ((m : List Delivery) → held_of h.1.0 k ≡ held m → held_of new k ≡ held (part_from k m calls)) → held_of new k ≡ held (cond b (part_from k (l ++ s ∷ []) calls) (part_from k l calls))
    by_count true i rec = rec (l ++ s ∷ []) (i ∙ ap (λ (m : Table). with_next m s) e ∙ sym (held_more l s))
    by_count false i rec = rec l (i ∙ e)
held_runs old new k l (closing q was_open ∷ calls) e h = by_same (same_key q k) refl (λ m i. held_runs (closed old q) new k m calls i h.1)
  where
    by_same : (b : Bool) → same_key q k ≡ b → ((m : List Delivery) → held_of (closed old q) k ≡ held m → held_of new k ≡ held (part_from k m calls)) → held_of new k ≡ held (cond b (part_from k [] calls) (part_from k l calls))
    by_same true i rec = rec [] (ap (λ (x : Key). held_of (closed old x) k) (key_same q k i) ∙ ap (λ (t : Option Table). unwrap_or t empty_table) (closed_same old k))
    by_same false i rec = rec l (ap (λ (t : Option Table). unwrap_or t empty_table) (closed_other old q k i) ∙ e)

opened_runs : (old new : List Reassembled) (k : Key) (l : List Delivery) (calls : List DeskCall) → held_of old k ≡ held l → DeskRuns old calls new → held_of new k ≡ held (since_opened_from k l calls)
opened_runs old new k l [] e h = ap (λ (d : List Reassembled). held_of d k) h ∙ e
opened_runs old new k l (taken peer s a ∷ calls) e h = by_count (same_key (key_of peer s) k && counts_after l a) (opened_step old h.1.0 peer l s a k h.1.1) (λ m i. opened_runs h.1.0 new k m calls i h.1.2)
  where
    by_count : (b : Bool) → held_of h.1.0 k ≡ cond b (with_next (held_of old k) s) (held_of old k) → ((m : List Delivery) → held_of h.1.0 k ≡ held m → held_of new k ≡ held (since_opened_from k m calls)) → held_of new k ≡ held (cond b (since_opened_from k (l ++ s ∷ []) calls) (since_opened_from k l calls))
    by_count true i rec = rec (l ++ s ∷ []) (i ∙ ap (λ (m : Table). with_next m s) e ∙ sym (held_more l s))
    by_count false i rec = rec l (i ∙ e)
opened_runs old new k l (closing q was_open ∷ calls) e h = by_same (same_key q k) refl (λ m i. opened_runs (closed old q) new k m calls i h.1)
  where
    by_same : (b : Bool) → same_key q k ≡ b → ((m : List Delivery) → held_of (closed old q) k ≡ held m → held_of new k ≡ held (since_opened_from k m calls)) → held_of new k ≡ held (cond b (since_opened_from k [] calls) (since_opened_from k l calls))
    by_same true i rec = rec [] (ap (λ (x : Key). held_of (closed old x) k) (key_same q k i) ∙ ap (λ (t : Option Table). unwrap_or t empty_table) (closed_same old k))
    by_same false i rec = rec l (ap (λ (t : Option Table). unwrap_or t empty_table) (closed_other old q k i) ∙ e)

pub opened_held : (calls : List DeskCall) (desk : List Reassembled) (key : Key) → DeskRuns [] calls desk → held_of desk key ≡ held (since_opened key calls)
opened_held calls desk key h = opened_runs [] desk key [] calls refl h

pub part_held : (calls : List DeskCall) (desk : List Reassembled) (key : Key) → DeskRuns [] calls desk → held_of desk key ≡ held (part key calls)
part_held calls desk key h = held_runs [] desk key [] calls refl h

desk_runs : (old new : List Reassembled) (calls : List DeskCall) → IsDesk old → AreUsed old → DeskRuns old calls new → IsDesk new × AreUsed new
desk_runs old new [] d u h = (subst IsDesk (sym h) d, subst AreUsed (sym h) u)
desk_runs old new (taken peer s a ∷ calls) d u h = desk_runs h.1.0 new calls (desk_takes old h.1.0 peer s a d h.1.1) (used_takes old h.1.0 peer s a h.0 u h.1.1) h.1.2
desk_runs old new (closing k was_open ∷ calls) d u h = desk_runs (closed old k) new calls (desk_closes old k d) (used_closed old k u) h.1

pub desk_used : (calls : List DeskCall) (desk : List Reassembled) → DeskRuns [] calls desk → IsDesk desk × AreUsed desk
desk_used calls desk h = desk_runs [] desk calls (record { apart = tt; few = omega arith }) tt h

pub desk_parted : (old new : List Reassembled) (before after : List DeskCall) → DeskRuns old (before ++ after) new → (mid : List Reassembled) × DeskRuns old before mid × DeskRuns mid after new
desk_parted old new [] after h = (old, refl, h)
desk_parted old new (taken peer s a ∷ before) after h = let r = desk_parted h.1.0 new before after h.1.2 in (r.0, (h.0, (h.1.0, h.1.1, r.1)), r.2)
desk_parted old new (closing k was_open ∷ before) after h = let r = desk_parted (closed old k) new before after h.1 in (r.0, (h.0, r.1), r.2)

-- a key is open exactly where something is held of it
open_held : (calls : List DeskCall) (desk : List Reassembled) (k : Key) → DeskRuns [] calls desk → is_open desk k ≡ is_held calls k
open_held calls desk k h = open_used desk k (desk_used calls desk h).1 ∙ ap holds_any (part_held calls desk k h)

pub closing_tells : (before after : List DeskCall) (desk : List Reassembled) (key : Key) (was_open : Bool) → DeskRuns [] (before ++ closing key was_open ∷ after) desk → was_open ≡ is_held before key
closing_tells before after desk key was_open h =
    let p = desk_parted [] desk before (closing key was_open ∷ after) h in
    p.2.0 ∙ open_held before p.0 key p.1

-- ---- eight other keys

not_same : (a b : Key) → (b ≡ a → ⊥) → same_key a b ≡ false
not_same a b n = by_same (same_key a b) refl
  where
    by_same : (x : Bool) → same_key a b ≡ x → x ≡ false
    by_same true e = absurd (n (sym (key_same a b e)))
    by_same false e = refl

true_false : {P : Type 0} (b : Bool) → b ≡ true → b ≡ false → P
true_false b h i = absurd (let j : true ≡ false = sym h ∙ i in cc)

closed_less : (rs : List Reassembled) (k : Key) → is_open rs k ≡ true → length (closed rs k) < length rs
closed_less [] k h = absurd (let i : false ≡ true = h in cc)
closed_less (r ∷ rs) k h = by_same (same_key r.key k) h (λ i. closed_less rs k i) (no_more rs)
  where
    no_more : (xs : List Reassembled) → length (closed xs k) ≤ length xs
    no_more [] = omega arith
    no_more (x ∷ xs) = by_one (same_key x.key k) (no_more xs)
      where
        by_one : (b : Bool) → length (closed xs k) ≤ length xs → length (cond b (closed xs k) (x ∷ closed xs k)) ≤ length (x ∷ xs)
        by_one true l = omega (arith, l)
        by_one false l = omega (arith, l)

    by_same : (b : Bool) → is_some (cond b (Some r.table) (table_of_key rs k)) ≡ true → (is_open rs k ≡ true → length (closed rs k) < length rs) → length (closed rs k) ≤ length rs → length (cond b (closed rs k) (r ∷ closed rs k)) < length (r ∷ rs)
    by_same true i rec l = omega (arith, l)
    by_same false i rec l = omega (arith, rec i)

open_closed : (rs : List Reassembled) (k : Key) (ks : List Key) → AllByRecursion (λ q. q ≢ k) ks → AllByRecursion (λ q. is_open rs q ≡ true) ks → AllByRecursion (λ q. is_open (closed rs k) q ≡ true) ks
open_closed rs k [] n h = tt
open_closed rs k (q ∷ ks) n h = (ap (λ (t : Option Table). is_some t) (closed_other rs k q (not_same k q n.0)) ∙ h.0, open_closed rs k ks n.1 h.1)

-- as many keys that are open, as many slots
few_open : (rs : List Reassembled) (ks : List Key) → AreDistinct ks → AllByRecursion (λ q. is_open rs q ≡ true) ks → length ks ≤ length rs
few_open rs [] d h = omega arith
few_open rs (k ∷ ks) d h = omega (arith, few_open (closed rs k) ks d.1 (open_closed rs k ks d.0 h.1), closed_less rs k h.0)

abbrev keys_of : List Reassembled → List Key
keys_of [] = []
keys_of (r ∷ rs) = r.key ∷ keys_of rs

keys_length : (rs : List Reassembled) → length (keys_of rs) ≡ length rs
keys_length [] = refl
keys_length (r ∷ rs) = ap (λ (n : ℕ). suc n) (keys_length rs)

open_first : (r : Reassembled) (rs : List Reassembled) → is_open (r ∷ rs) r.key ≡ true
open_first r rs = ap (λ (b : Bool). is_some (cond b (Some r.table) (table_of_key rs r.key))) (same_self r.key)

open_behind : (r : Reassembled) (rs : List Reassembled) (k : Key) → is_open rs k ≡ true → is_open (r ∷ rs) k ≡ true
open_behind r rs k h = by_same (same_key r.key k)
  where
    by_same : (b : Bool) → is_some (cond b (Some r.table) (table_of_key rs k)) ≡ true
    by_same true = refl
    by_same false = h

keys_open : (all rs : List Reassembled) → ((k : Key) → is_open rs k ≡ true → is_open all k ≡ true) → AllByRecursion (λ q. is_open all q ≡ true) (keys_of rs)
keys_open all [] f = tt
keys_open all (r ∷ rs) f = (f r.key (open_first r rs), keys_open all rs (λ k h. f k (open_behind r rs k h)))

others_than : (rs : List Reassembled) (k : Key) (ks : List Key) → is_open rs k ≡ false → AllByRecursion (λ q. is_open rs q ≡ true) ks → AllByRecursion (λ q. q ≢ k) ks
others_than rs k [] n h = tt
others_than rs k (q ∷ ks) n h = (λ e. true_false (is_open rs k) (ap (λ (x : Key). is_open rs x) (sym e) ∙ h.0) n, others_than rs k ks n h.1)

keys_distinct : (rs : List Reassembled) → AreApart rs → AreDistinct (keys_of rs)
keys_distinct [] a = tt
keys_distinct (r ∷ rs) a = (others_than rs r.key (keys_of rs) (ap (λ (t : Option Table). is_some t) a.0) (keys_open rs rs (λ k h. h)), keys_distinct rs a.1)

both_of : (calls : List DeskCall) (desk : List Reassembled) (k : Key) (ks : List Key) → DeskRuns [] calls desk → AllByRecursion (λ q. q ≢ k) ks → AllByRecursion (λ q. is_open desk q ≡ true) ks → AllByRecursion (λ q. (q ≢ k) × (is_held calls q ≡ true)) ks
both_of calls desk k [] h n o = tt
both_of calls desk k (q ∷ ks) h n o = ((n.0, sym (open_held calls desk q h) ∙ o.0), both_of calls desk k ks h n.1 o.1)

opens_of : (calls : List DeskCall) (desk : List Reassembled) (k : Key) (ks : List Key) → DeskRuns [] calls desk → AllByRecursion (λ q. (q ≢ k) × (is_held calls q ≡ true)) ks → AllByRecursion (λ q. is_open desk q ≡ true) ks
opens_of calls desk k [] h o = tt
opens_of calls desk k (q ∷ ks) h o = (open_held calls desk q h ∙ o.0.1, opens_of calls desk k ks h o.1)

is_eight : (desk : List Reassembled) (k : Key) → is_full_for desk k ≡ true → (is_open desk k ≡ false) × (8 ≤ length desk)
is_eight desk k h = by_open (table_of_key desk k) (leb 8 (length desk)) refl h
  where
    by_open : (o : Option Table) (b : Bool) → leb 8 (length desk) ≡ b → (is_none o && b) ≡ true → (is_some o ≡ false) × (8 ≤ length desk)
    by_open None true e i = (refl, leb-true 8 (length desk) e)
    by_open None false e i = absurd (let j : false ≡ true = i in cc)
    by_open (Some t) b e i = absurd (let j : false ≡ true = i in cc)

eight_full : (desk : List Reassembled) (k : Key) → is_open desk k ≡ false → 8 ≤ length desk → is_full_for desk k ≡ true
eight_full desk k h l = by_open (table_of_key desk k) h ∙ le-leb 8 (length desk) l
  where
    by_open : (o : Option Table) → is_some o ≡ false → (is_none o && leb 8 (length desk)) ≡ leb 8 (length desk)
    by_open None i = refl
    by_open (Some t) i = absurd (let j : true ≡ false = i in cc)

full_where : (calls : List DeskCall) (desk : List Reassembled) (k : Key) → DeskRuns [] calls desk → (is_full_for desk k ≡ true) ↔ ((is_held calls k ≡ false) × EightOthers k calls)
full_where calls desk k h =
    let d = desk_used calls desk h in (
      λ full. let e = is_eight desk k full in
          let opens = keys_open desk desk (λ q i. i) in (
            sym (open_held calls desk k h) ∙ e.0,
            record {
              keys = keys_of desk;
              eight = omega (arith, keys_length desk, e.1, d.0.few);
              distinct = keys_distinct desk d.0.apart;
              others = both_of calls desk k (keys_of desk) h (others_than desk k (keys_of desk) e.0 opens) opens;
            },
          ),
      λ p. eight_full desk k (open_held calls desk k h ∙ p.0) (omega (arith, p.1.eight, few_open desk p.1.keys p.1.distinct (opens_of calls desk k p.1.keys h p.1.others))),
    )

-- ---- each answer

record Stepped (old : List Reassembled) (peer : ℕ) (s : Delivery) (a : Answer) : Type 0 where
  other_key : a ≢ Err OtherKey
  full : (a ≡ Err DeskFull) ↔ (is_full_for old (key_of peer s) ≡ true)
  by_table : counts a ≡ true → a ≡ answer (held_of old (key_of peer s)) s
  memory : a ≡ Err OutOfMemory → IsKept (answer (held_of old (key_of peer s)) s)

differ : {P : Type 0} (e f : TakeFault) → (e ≡ f → ⊥) → (let a : Answer = Err e in a) ≡ Err f → P
differ e f n i = absurd (n (let a : Answer = Err e in let b : Answer = Err f in let j : a ≡ b = i in cc))

not_ok : {P : Type 0} (t : Taken) (f : TakeFault) → (let a : Answer = Ok t in a) ≡ Err f → P
not_ok t f i = absurd (let a : Answer = Ok t in let b : Answer = Err f in let j : a ≡ b = i in cc)

by_answer : (old : List Reassembled) (peer : ℕ) (s : Delivery) (a : Answer) → is_full_for old (key_of peer s) ≡ false → a ≡ answer (held_of old (key_of peer s)) s → (a ≡ Err OtherKey → ⊥) → (a ≡ Err DeskFull → ⊥) → (a ≡ Err OutOfMemory → ⊥) → Stepped old peer s a
by_answer old peer s a room is o f m = record {
  other_key = o;
  full = (λ h. absurd (f h), λ h. true_false (is_full_for old (key_of peer s)) h room);
  by_table = λ _. is;
  memory = λ h. absurd (m h);
}

stepped : (old mid : List Reassembled) (peer : ℕ) (s : Delivery) (a : Answer) → DeskTakes old peer s a mid → Stepped old peer s a
stepped old mid peer s (Ok t) h = by_answer old peer s (Ok t) h.0 h.1.0 (not_ok t OtherKey) (not_ok t DeskFull) (not_ok t OutOfMemory)
stepped old mid peer s (Err Conflict) h = by_answer old peer s (Err Conflict) h.0 h.1.0 (differ Conflict OtherKey (λ e. let i : Conflict ≡ OtherKey = e in cc)) (differ Conflict DeskFull (λ e. let i : Conflict ≡ DeskFull = e in cc)) (differ Conflict OutOfMemory (λ e. let i : Conflict ≡ OutOfMemory = e in cc))
stepped old mid peer s (Err PastEnd) h = by_answer old peer s (Err PastEnd) h.0 h.1.0 (differ PastEnd OtherKey (λ e. let i : PastEnd ≡ OtherKey = e in cc)) (differ PastEnd DeskFull (λ e. let i : PastEnd ≡ DeskFull = e in cc)) (differ PastEnd OutOfMemory (λ e. let i : PastEnd ≡ OutOfMemory = e in cc))
stepped old mid peer s (Err TooLarge) h = by_answer old peer s (Err TooLarge) h.0 h.1.0 (differ TooLarge OtherKey (λ e. let i : TooLarge ≡ OtherKey = e in cc)) (differ TooLarge DeskFull (λ e. let i : TooLarge ≡ DeskFull = e in cc)) (differ TooLarge OutOfMemory (λ e. let i : TooLarge ≡ OutOfMemory = e in cc))
stepped old mid peer s (Err OtherKey) h = absurd h
stepped old mid peer s (Err DeskFull) h = record {
  other_key = differ DeskFull OtherKey (λ e. let i : DeskFull ≡ OtherKey = e in cc);
  full = (λ _. h.0, λ _. refl);
  by_table = λ e. absurd (let i : false ≡ true = e in cc);
  memory = differ DeskFull OutOfMemory (λ e. let i : DeskFull ≡ OutOfMemory = e in cc);
}
stepped old mid peer s (Err OutOfMemory) h = record {
  other_key = differ OutOfMemory OtherKey (λ e. let i : OutOfMemory ≡ OtherKey = e in cc);
  full = (differ OutOfMemory DeskFull (λ e. let i : OutOfMemory ≡ DeskFull = e in cc), λ i. true_false (is_full_for old (key_of peer s)) i h.0);
  by_table = λ e. absurd (let i : false ≡ true = e in cc);
  memory = λ _. kept_where (held_of old (key_of peer s)) s h.1.0;
}

pub desk_answered : (before after : List DeskCall) (desk : List Reassembled) (peer : ℕ) (s : Delivery) (a : Answer) → DeskRuns [] (before ++ taken peer s a ∷ after) desk → IsDeskAnswer before peer s a
desk_answered before after desk peer s a h =
    let p = desk_parted [] desk before (taken peer s a ∷ after) h in
    let k = key_of peer s in
    let st = stepped p.0 p.2.1.0 peer s a p.2.1.1 in
    let is = part_held before p.0 k p.1 in
    let full = full_where before p.0 k p.1 in
    record {
      other_key = st.other_key;
      full = (λ i. full.0 (st.full.0 i), λ i. st.full.1 (full.1 i));
      by_table = λ c. st.by_table c ∙ ap (λ (m : Table). answer m s) is;
      memory = λ i. subst (λ (m : Table). IsKept (answer m s)) is (st.memory i);
    }

-- ---- one cut

pub desk_joined : (plan : CutPlan) (octets : List ℕ) (segments : List Delivery) (key : Key) (calls : List DeskCall) (desk : List Reassembled) → cut_fault plan octets ≡ None → IsCutOf plan octets segments → AreAmong segments (since_opened key calls) → DeskRuns [] calls desk → ((whole (held_of desk key) ≡ Some octets) ↔ AreAmong (since_opened key calls) segments) × ((whole (held_of desk key) ≡ Some octets) ⊎ (whole (held_of desk key) ≡ None))
desk_joined plan octets segments key calls desk fine cut among h =
    subst (λ (m : Table). ((whole m ≡ Some octets) ↔ AreAmong (since_opened key calls) segments) × ((whole m ≡ Some octets) ⊎ (whole m ≡ None))) (sym (opened_held calls desk key h))
    (cut_gives plan octets segments (since_opened key calls) fine cut among)

-- an answer goes by the segments since the key was opened
opened_answer : (before after : List DeskCall) (desk : List Reassembled) (peer : ℕ) (s : Delivery) (a : Answer) → DeskRuns [] (before ++ taken peer s a ∷ after) desk → counts a ≡ true → a ≡ answer (held (since_opened (key_of peer s) before)) s
opened_answer before after desk peer s a h counted =
    let p = desk_parted [] desk before (taken peer s a ∷ after) h in
    (stepped p.0 p.2.1.0 peer s a p.2.1.1).by_table counted ∙ ap (λ (m : Table). answer m s) (opened_held before p.0 (key_of peer s) p.1)

pub desk_good : (plan : CutPlan) (octets : List ℕ) (segments : List Delivery) (before after : List DeskCall) (desk : List Reassembled) (peer : ℕ) (s : Delivery) (a : Answer) → cut_fault plan octets ≡ None → IsCutOf plan octets segments → AreAmong segments (since_opened (key_of peer s) before) → IsOneOf segments s → DeskRuns [] (before ++ taken peer s a ∷ after) desk → IsGood a
desk_good plan octets segments before after desk peer s a fine cut among one h =
    good_by a (answer (held (since_opened (key_of peer s) before)) s) (cut_answered plan octets segments (since_opened (key_of peer s) before) s fine cut among one) (opened_answer before after desk peer s a h)

-- calls behind others
pub runs_on : (old mid new : List Reassembled) (calls more : List DeskCall) → DeskRuns old calls mid → DeskRuns mid more new → DeskRuns old (calls ++ more) new
runs_on old mid new [] more h k = subst (λ (d : List Reassembled). DeskRuns d more new) h k
runs_on old mid new (taken peer s a ∷ calls) more h k = (h.0, (h.1.0, h.1.1, runs_on h.1.0 mid new calls more h.1.2 k))
runs_on old mid new (closing q was_open ∷ calls) more h k = (h.0, runs_on (closed old q) mid new calls more h.1 k)

-- the last segment of a cut that is answered by what is held
pub desk_completed : (plan : CutPlan) (octets : List ℕ) (segments : List Delivery) (before after : List DeskCall) (desk : List Reassembled) (peer : ℕ) (s : Delivery) (a : Answer) → cut_fault plan octets ≡ None → IsCutOf plan octets segments
    → AreAmong segments (since_opened (key_of peer s) before) → IsOneOf segments s → AreAmong (since_opened (key_of peer s) before ++ s ∷ []) segments → (AreAmong (since_opened (key_of peer s) before) segments → ⊥)
    → DeskRuns [] (before ++ taken peer s a ∷ after) desk → counts a ≡ true → a ≡ Ok Complete
desk_completed plan octets segments before after desk peer s a fine cut among one all missing h counted =
    opened_answer before after desk peer s a h counted ∙ cut_completed plan octets segments (since_opened (key_of peer s) before) s fine cut among one all missing
