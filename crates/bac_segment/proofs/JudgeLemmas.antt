-- The answer to a segment, where its tests went so.
use Rattle.std.proofs.Common.{Result, ◌≡◌, ℕ, List, inl, inr, Bool, true, false, not, cond, Option, Some, None, Ok, Err, refl, sym, ap, subst, ◌∙◌, ◌&&◌, ◌||◌, eqb}
use Rattle.std.specs.Prelude.{is_none, is_some}
use Rattle.bac_segment.specs.declared.faults.Taken.{Taken}
use Rattle.bac_segment.specs.declared.faults.Taken.TheVariants.{Repeat, Kept, Complete}
use Rattle.bac_segment.specs.declared.faults.TakeFault.{TakeFault}
use Rattle.bac_segment.specs.declared.faults.TakeFault.TheVariants.{OtherKey, Conflict, PastEnd, TooLarge, OutOfMemory, DeskFull}
use Rattle.bac_segment.specs.Deliveries.{Delivery}
use Rattle.bac_segment.specs.Tables.{Entry, Table, whole, with_segment}
use Rattle.bac_segment.specs.Taking.{Answer, IsKept, answer, answer_where, kept_answer, entry_at, is_held_above, is_ended_below, has_room, same_entry, may_add, with_next, Judges, Keeps}

-- the tests, as truth values
abbrev decided : Bool → Bool → Bool → Answer → Answer
decided early past room kept = cond early (Err Conflict) (cond past (Err PastEnd) (cond (not room) (Err TooLarge) kept))

abbrev added : Bool → Bool → Bool → Bool → Bool → Bool
added free early below past room = free && not early && not below && not past && room

neither : (a b r : Bool) → (a || b) ≡ true → added true false a b r ≡ false
neither true b r h = refl
neither false true r h = refl
neither false false r h = absurd (let j : false ≡ true = h in cc)

both : (a b r : Bool) → (a || b) ≡ false → added true false a b r ≡ r
both true b r h = absurd (let j : true ≡ false = h in cc)
both false true r h = absurd (let j : true ≡ false = h in cc)
both false false r h = refl

module _ (m : Table) (s : Delivery) where
  abbrev early : Bool
  early = not s.more && is_held_above m s.seq

  abbrev last_number : Bool
  last_number = s.more && eqb s.seq 255

  pub repeated : (e : Entry) → entry_at m s.seq ≡ Some e → same_entry e s ≡ true → Judges m s (Ok false)
  repeated e h i = (ap (λ o. added (is_none o) early (is_ended_below m s.seq) last_number (has_room m s)) h, ap (λ o. answer_where o m s) h ∙ ap (λ b. cond b (Ok Repeat) (Err Conflict)) i)

  pub contradicted : (e : Entry) → entry_at m s.seq ≡ Some e → same_entry e s ≡ false → Judges m s (Err Conflict)
  contradicted e h i = (ap (λ o. added (is_none o) early (is_ended_below m s.seq) last_number (has_room m s)) h, ap (λ o. answer_where o m s) h ∙ ap (λ b. cond b (Ok Repeat) (Err Conflict)) i)

  module _ (free : entry_at m s.seq ≡ None) where
    pub too_early : early ≡ true → Judges m s (Err Conflict)
    too_early i = (
      ap (λ o. added (is_none o) early (is_ended_below m s.seq) last_number (has_room m s)) free ∙ ap (λ b. added true b (is_ended_below m s.seq) last_number (has_room m s)) i,
      ap (λ o. answer_where o m s) free ∙ ap (λ b. decided b (is_ended_below m s.seq || last_number) (has_room m s) (kept_answer m s)) i,
    )

    module _ (not_early : early ≡ false) where
      pub past_end : (is_ended_below m s.seq || last_number) ≡ true → Judges m s (Err PastEnd)
      past_end i = (
        ap (λ o. added (is_none o) early (is_ended_below m s.seq) last_number (has_room m s)) free ∙ ap (λ b. added true b (is_ended_below m s.seq) last_number (has_room m s)) not_early ∙ neither (is_ended_below m s.seq) last_number (has_room m s) i,
        ap (λ o. answer_where o m s) free ∙ ap (λ b. decided b (is_ended_below m s.seq || last_number) (has_room m s) (kept_answer m s)) not_early ∙ ap (λ b. decided false b (has_room m s) (kept_answer m s)) i,
      )

      module _ (not_past : (is_ended_below m s.seq || last_number) ≡ false) where
        addable : may_add m s ≡ has_room m s
        addable = ap (λ o. added (is_none o) early (is_ended_below m s.seq) last_number (has_room m s)) free ∙ ap (λ b. added true b (is_ended_below m s.seq) last_number (has_room m s)) not_early ∙ both (is_ended_below m s.seq) last_number (has_room m s) not_past

        answered : answer m s ≡ decided false false (has_room m s) (kept_answer m s)
        answered = ap (λ o. answer_where o m s) free ∙ ap (λ b. decided b (is_ended_below m s.seq || last_number) (has_room m s) (kept_answer m s)) not_early ∙ ap (λ b. decided false b (has_room m s) (kept_answer m s)) not_past

        pub too_large : has_room m s ≡ false → Judges m s (Err TooLarge)
        too_large i = (addable ∙ i, answered ∙ ap (λ b. decided false false b (kept_answer m s)) i)

        pub is_new : has_room m s ≡ true → Judges m s (Ok true)
        is_new i = (addable ∙ i, answered ∙ ap (λ b. decided false false b (kept_answer m s)) i)

-- ---- what a judgement gives

-- the faults that are never an answer by a table
abbrev pub IsApart : TakeFault → Type 0
IsApart OtherKey = Unit {0}
IsApart OutOfMemory = Unit {0}
IsApart DeskFull = Unit {0}
IsApart Conflict = ⊥
IsApart PastEnd = ⊥
IsApart TooLarge = ⊥

no_ok : {P : Type 0} (t : Taken) (f : TakeFault) → (let a : Answer = Ok t in a) ≡ Err f → P
no_ok t f i = absurd (let a : Answer = Ok t in let b : Answer = Err f in let j : a ≡ b = i in cc)

fault_is : (e f : TakeFault) → (let a : Answer = Err e in a) ≡ Err f → e ≡ f
fault_is e f i = let a : Answer = Err e in let b : Answer = Err f in let j : a ≡ b = i in cc

apart : (e f : TakeFault) → e ≡ f → IsApart f → IsApart e
apart e f i p = let P : TakeFault → Type 0 = IsApart in subst P (sym i) p

held_one : (t : Bool) (f : TakeFault) → IsApart f → cond t (Ok Repeat) (Err Conflict) ≡ Err f → ⊥
held_one true f p i = no_ok Repeat f i
held_one false f p i = apart Conflict f (fault_is Conflict f i) p

free_one : (e p r k : Bool) (f : TakeFault) → IsApart f → decided e p r (cond k (Ok Complete) (Ok Kept)) ≡ Err f → ⊥
free_one true p r k f a i = apart Conflict f (fault_is Conflict f i) a
free_one false true r k f a i = apart PastEnd f (fault_is PastEnd f i) a
free_one false false false k f a i = apart TooLarge f (fault_is TooLarge f i) a
free_one false false true true f a i = no_ok Complete f i
free_one false false true false f a i = no_ok Kept f i

where_one : (o : Option Entry) (m : Table) (s : Delivery) (f : TakeFault) → IsApart f → answer_where o m s ≡ Err f → ⊥
where_one (Some x) m s f a i = held_one (same_entry x s) f a i
where_one None m s f a i = free_one (early m s) (is_ended_below m s.seq || last_number m s) (has_room m s) (is_some (whole (with_segment m s))) f a i

pub no_fault_of : (m : Table) (s : Delivery) (f : TakeFault) → IsApart f → answer m s ≡ Err f → ⊥
no_fault_of m s f a i = where_one (entry_at m s.seq) m s f a i

stays : (m : Table) (s : Delivery) → may_add m s ≡ false → m ≡ with_next m s
stays m s h = ap (λ b. cond b (with_segment m s) m) (sym h)

pub keeps_fault : (m : Table) (s : Delivery) (fault : TakeFault) → Judges m s (Err fault) → Keeps m s (Err fault) m
keeps_fault m s OutOfMemory j = absurd (no_fault_of m s OutOfMemory tt j.1)
keeps_fault m s OtherKey j = (sym j.1, stays m s j.0)
keeps_fault m s Conflict j = (sym j.1, stays m s j.0)
keeps_fault m s PastEnd j = (sym j.1, stays m s j.0)
keeps_fault m s TooLarge j = (sym j.1, stays m s j.0)
keeps_fault m s DeskFull j = (sym j.1, stays m s j.0)

pub keeps_new : (m : Table) (s : Delivery) (b : Bool) (taken : Taken) → Judges m s (Ok true) → b ≡ is_some (whole (with_segment m s)) → taken ≡ cond b Complete Kept → Keeps m s (Ok taken) (with_segment m s)
keeps_new m s b taken j h is = (ap (λ (t : Taken). Ok t) is ∙ by_whole b ∙ ap (λ (x : Bool). cond x (Ok Complete) (Ok Kept)) h ∙ sym j.1, ap (λ x. cond x (with_segment m s) m) (sym j.0))
  where
    by_whole : (x : Bool) → (let a : Answer = Ok (cond x Complete Kept) in a) ≡ cond x (Ok Complete) (Ok Kept)
    by_whole true = refl
    by_whole false = refl

-- each segment is judged somehow
judged_held : (m : Table) (s : Delivery) (e : Entry) → entry_at m s.seq ≡ Some e → (t : Bool) → same_entry e s ≡ t → (r : Result Bool TakeFault) × Judges m s r
judged_held m s e h true i = (Ok false, repeated m s e h i)
judged_held m s e h false i = (Err Conflict, contradicted m s e h i)

judged_free : (m : Table) (s : Delivery) → entry_at m s.seq ≡ None → (a b d : Bool) → early m s ≡ a → (is_ended_below m s.seq || last_number m s) ≡ b → has_room m s ≡ d → (r : Result Bool TakeFault) × Judges m s r
judged_free m s h true b d i j k = (Err Conflict, too_early m s h i)
judged_free m s h false true d i j k = (Err PastEnd, past_end m s h i j)
judged_free m s h false false false i j k = (Err TooLarge, too_large m s h i j k)
judged_free m s h false false true i j k = (Ok true, is_new m s h i j k)

judged_entry : (m : Table) (s : Delivery) (o : Option Entry) → entry_at m s.seq ≡ o → (r : Result Bool TakeFault) × Judges m s r
judged_entry m s (Some e) h = judged_held m s e h (same_entry e s) refl
judged_entry m s None h = judged_free m s h (early m s) (is_ended_below m s.seq || last_number m s) (has_room m s) refl refl refl

pub judged_somehow : (m : Table) (s : Delivery) → (r : Result Bool TakeFault) × Judges m s r
judged_somehow m s = judged_entry m s (entry_at m s.seq) refl

-- where a number is free nothing is repeated
pub no_repeat : (m : Table) (s : Delivery) → entry_at m s.seq ≡ None → answer m s ≡ Ok Repeat → ⊥
no_repeat m s f h = none (early m s) (is_ended_below m s.seq || last_number m s) (has_room m s) (is_some (whole (with_segment m s))) (sym (ap (λ o. answer_where o m s) f) ∙ h)
  where
    other : (t : Taken) → (t ≡ Repeat → ⊥) → (let a : Answer = Ok t in a) ≡ Ok Repeat → ⊥
    other t n i = n (let a : Answer = Ok t in let b : Answer = Ok Repeat in let j : a ≡ b = i in cc)

    none : (e p r k : Bool) → decided e p r (cond k (Ok Complete) (Ok Kept)) ≡ Ok Repeat → ⊥
    none true p r k i = no_ok Repeat Conflict (sym i)
    none false true r k i = no_ok Repeat PastEnd (sym i)
    none false false false k i = no_ok Repeat TooLarge (sym i)
    none false false true true i = other Complete (λ j. let e : Complete ≡ Repeat = j in cc) i
    none false false true false i = other Kept (λ j. let e : Kept ≡ Repeat = j in cc) i

adds_by : (m : Table) (s : Delivery) (r : Result Bool TakeFault) → Judges m s r → answer m s ≡ Ok Complete → may_add m s ≡ true
adds_by m s (Ok true) j h = j.0
adds_by m s (Ok false) j h = let a : Answer = Ok Repeat in let b : Answer = Ok Complete in let i : a ≡ b = sym j.1 ∙ h in absurd (let k : Repeat ≡ Complete = cc in cc)
adds_by m s (Err f) j h = no_ok Complete f (sym h ∙ j.1)

pub complete_adds : (m : Table) (s : Delivery) → answer m s ≡ Ok Complete → may_add m s ≡ true
complete_adds m s h = let j = judged_somehow m s in adds_by m s j.0 j.1 h

-- ---- where it is kept

pub kept_where : (m : Table) (s : Delivery) → may_add m s ≡ true → IsKept (answer m s)
kept_where m s h = let j = judged_somehow m s in by_judged j.0 j.1
  where
    not_both : {P : Type 0} (b : Bool) → b ≡ true → b ≡ false → P
    not_both b i j = absurd (let k : true ≡ false = sym i ∙ j in cc)

    by_whole : (b : Bool) → IsKept (cond b (Ok Complete) (Ok Kept))
    by_whole true = inr refl
    by_whole false = inl refl

    by_judged : (r : Result Bool TakeFault) → Judges m s r → IsKept (answer m s)
    by_judged (Ok true) j = subst IsKept (sym j.1) (by_whole (is_some (whole (with_segment m s))))
    by_judged (Ok false) j = not_both (may_add m s) h j.0
    by_judged (Err f) j = not_both (may_add m s) h j.0

pub adds_where : (m : Table) (s : Delivery) → IsKept (answer m s) → may_add m s ≡ true
adds_where m s (inr h) = complete_adds m s h
adds_where m s (inl h) = let j = judged_somehow m s in by_judged j.0 j.1
  where
    by_judged : (r : Result Bool TakeFault) → Judges m s r → may_add m s ≡ true
    by_judged (Ok true) j = j.0
    by_judged (Ok false) j = let a : Answer = Ok Repeat in let b : Answer = Ok Kept in let i : a ≡ b = sym j.1 ∙ h in absurd (let k : Repeat ≡ Kept = cc in cc)
    by_judged (Err f) j = no_ok Kept f (sym h ∙ j.1)

-- what may be added is kept
pub kept_is : (m : Table) (s : Delivery) → may_add m s ≡ true → answer m s ≡ kept_answer m s
kept_is m s adds = let judged = judged_somehow m s in by_judgement judged.0 judged.1
  where
    by_judgement : (r : Result Bool TakeFault) → Judges m s r → answer m s ≡ kept_answer m s
    by_judgement (Ok true) j = j.1
    by_judgement (Ok false) j = absurd (let k : true ≡ false = sym adds ∙ j.0 in cc)
    by_judgement (Err f) j = absurd (let k : true ≡ false = sym adds ∙ j.0 in cc)

-- with a segment that makes it whole a message is complete
pub completes : {octets : List ℕ} (m : Table) (s : Delivery) → whole (with_next m s) ≡ Some octets → (whole m ≡ Some octets → ⊥) → answer m s ≡ Ok Complete
completes {octets} m s all missing = by_add (may_add m s) refl
  where
    by_add : (b : Bool) → may_add m s ≡ b → answer m s ≡ Ok Complete
    by_add true e =
        let there : whole (with_segment m s) ≡ Some octets = ap (λ (t : Bool). whole (cond t (with_segment m s) m)) (sym e) ∙ all in
        kept_is m s e ∙ ap (λ (o : Option (List ℕ)). let a : Answer = cond (is_some o) (Ok Complete) (Ok Kept) in a) there
    by_add false e = absurd (missing (ap (λ (t : Bool). whole (cond t (with_segment m s) m)) (sym e) ∙ all))
