-- Lists of calls of a desk: what it goes through, call by call.
use Rattle.std.specs.Prelude.{◌≡◌, ◌≢◌, ◌↔◌, ◌<◌, ◌&&◌, ℕ, Bool, true, false, if◌then◌else◌, is_ok, Err, List, [], ◌∷◌, ◌++◌, length}
use Rattle.std.specs.List.{AllByRecursion}
use Rattle.bac_segment.specs.declared.keys.Key.{Key}
use Rattle.bac_segment.specs.declared.faults.TakeFault.TheVariants.{OtherKey, OutOfMemory, DeskFull}
use Rattle.bac_segment.specs.Deliveries.{Delivery, key_of}
use Rattle.bac_segment.specs.Tables.{holds_any}
use Rattle.bac_segment.specs.Taking.{Answer, counts, answer, held, IsKept}
use Rattle.bac_segment.specs.Reassembled.{Reassembled}
use Rattle.bac_segment.specs.Desks.{same_key, is_open, closed, DeskTakes}

-- A call of a desk: a segment of a sender with its answer, or a key to close with whether it was open.
pub data DeskCall : Type 0 where
  -- A segment that this sender sent, and its answer.
  taken : ℕ → Delivery → Answer → DeskCall
  -- A key, and whether it was open.
  closing : Key → Bool → DeskCall

-- These calls, with these answers, lead from one desk to another. The number of each segment has one octet.
abbrev pub DeskRuns : List Reassembled → List DeskCall → List Reassembled → Type 0
DeskRuns old [] new = new ≡ old
DeskRuns old (taken peer s a ∷ calls) new = (s.seq < 256) × ((mid : List Reassembled) × DeskTakes old peer s a mid × DeskRuns mid calls new)
DeskRuns old (closing k was_open ∷ calls) new = (was_open ≡ is_open old k) × DeskRuns (closed old k) calls new

-- The segments of a key whose answers count, since it was last closed, where l are those before these calls.
abbrev pub part_from : Key → List Delivery → List DeskCall → List Delivery
part_from k l [] = l
part_from k l (taken peer s a ∷ calls) = if same_key (key_of peer s) k && counts a then part_from k (l ++ s ∷ []) calls else part_from k l calls
part_from k l (closing q was_open ∷ calls) = if same_key q k then part_from k [] calls else part_from k l calls

-- The segments of a key whose answers count, since it was last closed.
abbrev pub part : Key → List DeskCall → List Delivery
part k calls = part_from k [] calls

-- True if a segment with this answer counts after these segments of its key. The first segment of a key counts only
-- if it is kept, since it opens the key then.
abbrev pub counts_after : List Delivery → Answer → Bool
counts_after [] a = is_ok a
counts_after (x ∷ l) a = counts a

-- The segments of a key between its opening and its closing, where l are those before these calls. Only those are
-- among them that count by counts_after.
abbrev pub since_opened_from : Key → List Delivery → List DeskCall → List Delivery
since_opened_from k l [] = l
since_opened_from k l (taken peer s a ∷ calls) = if same_key (key_of peer s) k && counts_after l a then since_opened_from k (l ++ s ∷ []) calls else since_opened_from k l calls
since_opened_from k l (closing q was_open ∷ calls) = if same_key q k then since_opened_from k [] calls else since_opened_from k l calls

-- The segments of a key between its opening and its closing. They are those of part without the segments that were
-- refused while nothing was held of the key.
abbrev pub since_opened : Key → List DeskCall → List Delivery
since_opened k calls = since_opened_from k [] calls

-- True if something is held of the key after the calls.
abbrev pub is_held : List DeskCall → Key → Bool
is_held calls k = holds_any (held (part k calls))

-- No key is in the list twice.
abbrev pub AreDistinct : List Key → Type 0
AreDistinct [] = Unit {0}
AreDistinct (k ∷ ks) = AllByRecursion (λ q. q ≢ k) ks × AreDistinct ks

-- Something is held of eight other keys after the calls.
pub record EightOthers (k : Key) (calls : List DeskCall) : Type 0 where
  pub keys : List Key
  pub eight : length keys ≡ 8
  pub distinct : AreDistinct keys
  pub others : AllByRecursion (λ q. (q ≢ k) × (is_held calls q ≡ true)) keys

-- The answer is that of a desk to a segment of this sender, after these calls. It is never OtherKey. It is DeskFull
-- exactly where nothing is held of the segment's key and something of eight others. If it counts, it is what answer
-- gives by the key's own segments. It is OutOfMemory only if the segment would be kept.
pub record IsDeskAnswer (calls : List DeskCall) (peer : ℕ) (s : Delivery) (a : Answer) : Type 0 where
  pub other_key : a ≢ Err OtherKey
  pub full : (a ≡ Err DeskFull) ↔ ((is_held calls (key_of peer s) ≡ false) × EightOthers (key_of peer s) calls)
  pub by_table : counts a ≡ true → a ≡ answer (held (part (key_of peer s) calls)) s
  pub memory : a ≡ Err OutOfMemory → IsKept (answer (held (part (key_of peer s) calls)) s)
