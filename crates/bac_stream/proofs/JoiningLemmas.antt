-- Segments that are joined to a service.
use Rattle.std.proofs.Common.{◌≡◌, ◌≢◌, ◌⊎◌, inl, inr, ◌+◌, ℕ, Bool, true, false, cond, ◌&&◌, Option, Some, None, Result, Ok, Err, List, [], ◌∷◌, ◌++◌, refl, sym, ap, subst, ◌∙◌, Bor}
use Rattle.std.specs.Prelude.{is_some}
use Rattle.std.specs.Option.{IsSome, option_copied, unwrap_or}
use Rattle.bac_tag.specs.declared.refusals.Refusal.{Refusal}
use Rattle.bac_tag.specs.declared.refusals.Why.TheVariants.{OutOfMemory}
use Rattle.bac_productions.specs.Reasons.{IsServiceReason}
use Rattle.bac_service.specs.declared.kind.Kind.{Kind}
use Rattle.bac_service.specs.Services.{ServiceValue, value_of as service_of, SpellsService}
use Rattle.bac_service.specs.ServiceTable.{is_small}
use Rattle.bac_tag.specs.Spelling.{IsWholeRefusal}
use Rattle.bac_segment.specs.declared.keys.Key.{Key}
use Rattle.bac_segment.specs.declared.cutting.CutPlan.{CutPlan}
use Rattle.bac_segment.specs.declared.faults.Taken.TheVariants as taken
use Rattle.bac_segment.specs.declared.faults.TakeFault.TheVariants as fault
use Rattle.bac_segment.specs.Deliveries.{Delivery, key_of}
use Rattle.bac_segment.specs.Tables.{Table, empty_table, whole, with_segment}
use Rattle.bac_segment.specs.Taking.{Answer, answer, counts, with_next}
use Rattle.bac_segment.specs.Pieces.{segments_from, IsCutOf, cut_fault}
use Rattle.bac_segment.specs.Cuts.{IsOneOf, AreAmong, IsGood}
use Rattle.bac_segment.specs.Reassembled.{Reassembled}
use Rattle.bac_segment.specs.Desks.{same_key, held_of, DeskTakes}
use Rattle.bac_segment.specs.DeskHistories as history
use Rattle.bac_segment.specs.DeskHistories.{DeskCall, DeskRuns, counts_after, since_opened_from, since_opened}
use Rattle.bac_segment.proofs.DeskHistoryLemmas.{desk_answered, desk_good, desk_joined, desk_completed}
use Rattle.bac_segment.proofs.DeskLemmas.{put_same}
use Rattle.bac_segment.proofs.JoinLemmas.{among_append}
use Rattle.bac_segment.proofs.JudgeLemmas.{complete_adds, kept_is}
use Rattle.bac_stream.specs.declared.joined.Joined.{Joined}
use Rattle.bac_stream.specs.declared.joined.Joined.TheVariants.{NotSegment, Kept, Repeat, Message}
use Rattle.bac_stream.specs.declared.joined.JoinFault.{JoinFault}
use Rattle.bac_stream.specs.declared.joined.JoinFault.TheVariants.{Take, Content}
use Rattle.bac_stream.specs.Joining.{IsFromMessage, IsNoMessage, IsJoined, IsGoodJoin, IsLastJoin, SpellsMessage, kind_of}
use Rattle.bac_stream.proofs.JudgingLemmas.{memory_or_other}

-- ---- a message that is whole

is_there : (o : Option (List ℕ)) → (let a : Answer = cond (is_some o) (Ok taken.Complete) (Ok taken.Kept) in a) ≡ Ok taken.Complete → (octets : List ℕ) × (o ≡ Some octets)
is_there (Some octets) i = (octets, refl)
is_there None i = let a : Answer = Ok taken.Kept in let b : Answer = Ok taken.Complete in let j : a ≡ b = i in absurd (let k : taken.Kept ≡ taken.Complete = cc in cc)

whole_there : (m : Table) (s : Delivery) → answer m s ≡ Ok taken.Complete → (octets : List ℕ) × (whole (with_next m s) ≡ Some octets)
whole_there m s h =
    let adds = complete_adds m s h in
    let found = is_there (whole (with_segment m s)) (sym (kept_is m s adds) ∙ h) in
    (found.0, ap (λ (b : Bool). whole (cond b (with_segment m s) m)) adds ∙ found.1)

-- With the answer Complete the desk has the message.
pub complete_held : (old new : List Reassembled) (peer : ℕ) (s : Delivery) → DeskTakes old peer s (Ok taken.Complete) new → (octets : List ℕ) × (whole (held_of new (key_of peer s)) ≡ Some octets)
complete_held old new peer s h =
    let key = key_of peer s in
    let found = whole_there (held_of old key) s (sym h.1.0) in
    (found.0, ap (λ (d : List Reassembled). whole (held_of d key)) h.2 ∙ ap (λ (o : Option Table). whole (unwrap_or o empty_table)) (put_same old key (with_next (held_of old key) s)) ∙ found.1)

pub some_there : (o : Option (Bor (List ℕ))) (octets : List ℕ) → option_copied o ≡ Some octets → IsSome o
some_there (Some b) octets h = refl
some_there None octets h = absurd (let i : None ≡ Some octets = h in cc)

-- what the reader of services refuses
pub no_message : (s : Delivery) (octets : List ℕ) (refusal : Refusal) (kind : Kind) → kind ≡ kind_of s.head
    → (refusal.why ≢ OutOfMemory → IsWholeRefusal (SpellsService true 32 kind s.choice) octets refusal)
    → (refusal.why ≡ OutOfMemory → (refusal.place ≡ 0) × (is_small kind s.choice ≡ false)) → IsServiceReason refusal.why → IsNoMessage s octets refusal
no_message s octets refusal kind is refused memory reasons = record {
  refused = λ other. subst (λ (k : Kind). IsWholeRefusal (SpellsService true 32 k s.choice) octets refusal) is (refused other);
  memory = λ want. subst (λ (k : Kind). (refusal.place ≡ 0) × (is_small k s.choice ≡ false)) is (memory want);
  reasons = reasons;
}

-- ---- one more segment of a cut

opened_more : (segments : List Delivery) (key : Key) (l : List Delivery) (calls : List DeskCall) (peer : ℕ) (s : Delivery) (a : Answer) → AreAmong segments (since_opened_from key l calls) → IsOneOf segments s → AreAmong segments (since_opened_from key l (calls ++ history.taken peer s a ∷ []))
opened_more segments key l [] peer s a among one = by_key (same_key (key_of peer s) key && counts_after l a)
  where
    by_key : (b : Bool) → AreAmong segments (cond b (l ++ s ∷ []) l)
    by_key true = among_append segments l s among one
    by_key false = among
opened_more segments key l (history.taken p q b ∷ calls) peer s a among one =
    by_key (same_key (key_of p q) key && counts_after l b) among (λ k i. opened_more segments key k calls peer s a i one)
  where
    by_key : (t : Bool) → AreAmong segments (cond t (since_opened_from key (l ++ q ∷ []) calls) (since_opened_from key l calls))
        → ((k : List Delivery) → AreAmong segments (since_opened_from key k calls) → AreAmong segments (since_opened_from key k (calls ++ history.taken peer s a ∷ [])))
        → AreAmong segments (cond t (since_opened_from key (l ++ q ∷ []) (calls ++ history.taken peer s a ∷ [])) (since_opened_from key l (calls ++ history.taken peer s a ∷ [])))
    by_key true i more = more (l ++ q ∷ []) i
    by_key false i more = more l i
opened_more segments key l (history.closing q was_open ∷ calls) peer s a among one =
    by_key (same_key q key) among (λ k i. opened_more segments key k calls peer s a i one)
  where
    by_key : (t : Bool) → AreAmong segments (cond t (since_opened_from key [] calls) (since_opened_from key l calls))
        → ((k : List Delivery) → AreAmong segments (since_opened_from key k calls) → AreAmong segments (since_opened_from key k (calls ++ history.taken peer s a ∷ [])))
        → AreAmong segments (cond t (since_opened_from key [] (calls ++ history.taken peer s a ∷ [])) (since_opened_from key l (calls ++ history.taken peer s a ∷ [])))
    by_key true i more = more [] i
    by_key false i more = more l i

-- of one cut: head and choice are those of the plan
of_plan : (plan : CutPlan) (q : ℕ) (pieces : List (List ℕ)) (s : Delivery) → IsOneOf (segments_from plan q pieces) s → (s.head ≡ plan.head) × (s.choice ≡ plan.choice)
of_plan plan q [] s h = absurd h
of_plan plan q (piece ∷ pieces) s (inl h) = (ap (λ (d : Delivery). d.head) h, ap (λ (d : Delivery). d.choice) h)
of_plan plan q (piece ∷ pieces) s (inr h) = of_plan plan (q + 1) pieces s h

-- ---- the answers to segments of a service

module _ (services : (kind : Kind) (choice : ℕ) (v w : ServiceValue) (b : List ℕ) → SpellsService true 32 kind choice v b → SpellsService true 32 kind choice w b → v ≡ w) where
  from_message : (s : Delivery) (service : ServiceValue) (octets : List ℕ) (result : Result Joined JoinFault) → SpellsMessage s service octets → IsFromMessage s octets result → IsGoodJoin service result
  from_message s service octets (Ok (Message found)) spells h = services (kind_of s.head) s.choice (service_of found) service octets h spells
  from_message s service octets (Ok NotSegment) spells h = absurd h
  from_message s service octets (Ok Kept) spells h = absurd h
  from_message s service octets (Ok Repeat) spells h = absurd h
  from_message s service octets (Err (Take refused)) spells h = absurd h
  from_message s service octets (Err (Content refusal)) spells h = elim (memory_or_other refusal.why) [
    | inl memory ↦ memory
    | inr other ↦ absurd ((h.refused other).none service spells)
  ]

  joined_by : (s : Delivery) (service : ServiceValue) (octets : List ℕ) (a : Answer) (held : Option (List ℕ)) (result : Result Joined JoinFault)
      → SpellsMessage s service octets → a ≢ Err fault.OtherKey → IsGood a → (held ≡ Some octets) ⊎ (held ≡ None) → IsJoined s a held result → IsGoodJoin service result
  joined_by s service octets (Ok taken.Kept) held result spells desk good cut h = subst (IsGoodJoin service) (sym h) tt
  joined_by s service octets (Ok taken.Repeat) held result spells desk good cut h = subst (IsGoodJoin service) (sym h) tt
  joined_by s service octets (Ok taken.Complete) held result spells desk good (inl all) h =
      let same : h.0 ≡ octets = (let i : Some h.0 ≡ Some octets = sym h.1 ∙ all in cc) in
      from_message s service octets result spells (subst (λ (b : List ℕ). IsFromMessage s b result) same h.2)
  joined_by s service octets (Ok taken.Complete) held result spells desk good (inr none) h = absurd (let i : Some h.0 ≡ None = sym h.1 ∙ none in cc)
  joined_by s service octets (Err fault.OutOfMemory) held result spells desk good cut h = subst (IsGoodJoin service) (sym h) tt
  joined_by s service octets (Err fault.DeskFull) held result spells desk good cut h = subst (IsGoodJoin service) (sym h) tt
  joined_by s service octets (Err fault.OtherKey) held result spells desk good cut h = absurd (desk refl)
  joined_by s service octets (Err fault.Conflict) held result spells desk good cut h = absurd (let i : true ≡ false = good in cc)
  joined_by s service octets (Err fault.PastEnd) held result spells desk good cut h = absurd (let i : true ≡ false = good in cc)
  joined_by s service octets (Err fault.TooLarge) held result spells desk good cut h = absurd (let i : true ≡ false = good in cc)

  pub joined_good : (plan : CutPlan) (octets : List ℕ) (segments : List Delivery) (service : ServiceValue) (before : List DeskCall) (desk : List Reassembled) (peer : ℕ) (s : Delivery) (a : Answer) (result : Result Joined JoinFault)
      → cut_fault plan octets ≡ None → IsCutOf plan octets segments → SpellsService true 32 (kind_of plan.head) plan.choice service octets
      → AreAmong segments (since_opened (key_of peer s) before) → IsOneOf segments s → DeskRuns [] (before ++ history.taken peer s a ∷ []) desk
      → IsJoined s a (whole (held_of desk (key_of peer s))) result → IsGoodJoin service result
  joined_good plan octets segments service before desk peer s a result fine cut spells among one runs h =
      let of = of_plan plan 0 cut.0 s (subst (λ (l : List Delivery). IsOneOf l s) cut.2 one) in
      let spells : SpellsMessage s service octets = rw (of.0, of.1) spells in
      let more = opened_more segments (key_of peer s) [] before peer s a among one in
      joined_by s service octets a (whole (held_of desk (key_of peer s))) result spells
      (desk_answered before [] desk peer s a runs).other_key (desk_good plan octets segments before [] desk peer s a fine cut among one runs)
      (desk_joined plan octets segments (key_of peer s) (before ++ history.taken peer s a ∷ []) desk fine cut more runs).1 h

  -- the last missing segment, which is answered with Complete
  last_by : (s : Delivery) (service : ServiceValue) (a : Answer) (held : Option (List ℕ)) (result : Result Joined JoinFault) → (counts a ≡ true → a ≡ Ok taken.Complete) → IsJoined s a held result → IsGoodJoin service result → IsLastJoin service result
  last_by s service (Ok taken.Kept) held result complete h good = absurd (let a : Answer = Ok taken.Kept in let b : Answer = Ok taken.Complete in let i : a ≡ b = complete refl in let k : taken.Kept ≡ taken.Complete = cc in cc)
  last_by s service (Ok taken.Repeat) held result complete h good = absurd (let a : Answer = Ok taken.Repeat in let b : Answer = Ok taken.Complete in let i : a ≡ b = complete refl in let k : taken.Repeat ≡ taken.Complete = cc in cc)
  last_by s service (Ok taken.Complete) held result complete h good = by_result result h.2 good
    where
      by_result : (r : Result Joined JoinFault) → IsFromMessage s h.0 r → IsGoodJoin service r → IsLastJoin service r
      by_result (Ok (Message found)) m g = g
      by_result (Ok NotSegment) m g = absurd m
      by_result (Ok Kept) m g = absurd m
      by_result (Ok Repeat) m g = absurd m
      by_result (Err (Take refused)) m g = absurd m
      by_result (Err (Content refusal)) m g = g
  last_by s service (Err fault.OutOfMemory) held result complete h good = subst (IsLastJoin service) (sym h) tt
  last_by s service (Err fault.DeskFull) held result complete h good = subst (IsLastJoin service) (sym h) tt
  last_by s service (Err fault.OtherKey) held result complete h good = absurd (subst (IsGoodJoin service) h good)
  last_by s service (Err fault.Conflict) held result complete h good = absurd (subst (IsGoodJoin service) h good)
  last_by s service (Err fault.PastEnd) held result complete h good = absurd (subst (IsGoodJoin service) h good)
  last_by s service (Err fault.TooLarge) held result complete h good = absurd (subst (IsGoodJoin service) h good)

  pub joined_last : (plan : CutPlan) (octets : List ℕ) (segments : List Delivery) (service : ServiceValue) (before : List DeskCall) (desk : List Reassembled) (peer : ℕ) (s : Delivery) (a : Answer) (result : Result Joined JoinFault)
      → cut_fault plan octets ≡ None → IsCutOf plan octets segments → SpellsService true 32 (kind_of plan.head) plan.choice service octets
      → AreAmong segments (since_opened (key_of peer s) before) → IsOneOf segments s → AreAmong (since_opened (key_of peer s) before ++ s ∷ []) segments → (AreAmong (since_opened (key_of peer s) before) segments → ⊥)
      → DeskRuns [] (before ++ history.taken peer s a ∷ []) desk → IsJoined s a (whole (held_of desk (key_of peer s))) result → IsLastJoin service result
  joined_last plan octets segments service before desk peer s a result fine cut spells among one all missing runs joins =
      last_by s service a (whole (held_of desk (key_of peer s))) result (desk_completed plan octets segments before [] desk peer s a fine cut among one all missing runs) joins
      (joined_good plan octets segments service before desk peer s a result fine cut spells among one runs joins)
