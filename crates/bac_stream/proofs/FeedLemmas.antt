-- Streams that are fed in pieces.
use Rattle.std.proofs.Common.{◌≡◌, ◌≢◌, inl, inr, ℕ, ◌+◌, ◌≤◌, List, [], ◌∷◌, ◌++◌, length, refl, sym, ap, ap₂, subst, ◌∙◌, append-nil, arith, Result, Ok, Err}
use Rattle.std.specs.Prelude.{MatchResult}
use Rattle.std.specs.List.{AllZip}
use Rattle.bac_tag.specs.declared.refusals.Refusal.{Refusal}
use Rattle.bac_tag.specs.declared.refusals.Why.TheVariants.{OutOfMemory, NotCanonical}
use Rattle.bac_record.specs.Records.{Records, MOST, TooMany, end_of}
use Rattle.bac_record.proofs.Unique.{unique}
use Rattle.bac_npdu_parts.specs.declared.frame.Frame.{Frame}
use Rattle.bac_npdu_parts.specs.Frames.{FrameValue, SpellsFrame, value_of}
use Rattle.bac_stream.specs.Judging.{IsCanonicalFor, Refuses}
use Rattle.bac_stream.specs.Feeds.{Feed, Fed, Feeds, IsAnswer, taken_in, items_of, where_ok}
use Rattle.bac_stream.specs.Intakes.{IntakeValue, Item, IsItem, GivesItsValue, TakesIn, FeedFails, fresh}
use Rattle.bac_stream.specs.declared.modes.Mode.{Mode}
use Rattle.bac_stream.specs.declared.modes.Mode.TheVariants.{Tolerant, Strict}
use Rattle.bac_stream.specs.declared.feed_faults.FeedFault.{FeedFault}
use Rattle.bac_stream.specs.declared.feed_faults.FeedFault.TheVariants as fault
use Rattle.bac_stream.proofs.IntakeLemmas.{takes_more, takes_nothing, fails_behind}

-- no more than the most records, and a rest that is no record
record Settled (intake : IntakeValue) : Type 0 where
  few : intake.records ≤ MOST
  alone : TakesIn intake [] [] intake

settled : (old new : IntakeValue) (piece : List ℕ) (items : List Item) → old.records ≤ MOST → TakesIn old piece items new → Settled new
settled old new piece items few one =
    let more = one.splits.few in
    record {
      few = omega (arith, few, more, one.records);
      alone = record {
        list = [];
        splits = record { whole = append-nil new.rest; each = tt; few = omega arith; partial = λ less. one.splits.partial (omega (arith, less, few, more, one.records)) };
        given = tt;
        mode = refl;
        records = omega arith;
        ends = one.ends;
      };
    }

settled_on : (old mid : IntakeValue) (piece : List ℕ) (items : List Item) (answer : Result (Unit {0}) FeedFault) → Settled old
    → MatchResult answer (λ _. TakesIn old piece items mid) (λ why. FeedFails old piece why × (items ≡ []) × (mid ≡ old)) → Settled mid
settled_on old mid piece items (Ok _) s fed = settled old mid piece items s.few fed
settled_on old mid piece items (Err why) s fed = subst Settled (sym fed.2) s

joined_on : (old mid new : IntakeValue) (piece rest : List ℕ) (items more : List Item) (answer : Result (Unit {0}) FeedFault) → Settled old
    → MatchResult answer (λ _. TakesIn old piece items mid) (λ why. FeedFails old piece why × (items ≡ []) × (mid ≡ old))
    → TakesIn mid rest more new → TakesIn old (where_ok answer piece ++ rest) (items ++ more) new
joined_on old mid new piece rest items more (Ok _) s fed behind = takes_more old mid new piece rest items more s.few fed behind
joined_on old mid new piece rest items more (Err why) s fed behind =
    subst (λ (l : List Item). TakesIn old rest (l ++ more) new) (sym fed.1) (subst (λ o. TakesIn o rest more new) fed.2 behind)

all_taken : (old : IntakeValue) (feeds : List Feed) (new : IntakeValue) → Settled old → Feeds old feeds new → TakesIn old (taken_in feeds) (items_of feeds) new
all_taken old [] new s fed = subst (TakesIn old [] []) (sym fed) s.alone
all_taken old (feed ∷ feeds) new s fed =
    let behind = all_taken fed.0 feeds new (settled_on old fed.0 feed.piece feed.items feed.answer s fed.1) fed.2 in
    joined_on old fed.0 new feed.piece (taken_in feeds) feed.items (items_of feeds) feed.answer s fed.1 behind

fresh_settled : (mode : Mode) → Settled (fresh mode)
fresh_settled mode = record { few = omega arith; alone = takes_nothing mode 0 }

-- Feeds to a new intake give the records of the joined pieces.
pub records_given : (mode : Mode) (feeds : List Feed) (intake : IntakeValue) → Feeds (fresh mode) feeds intake
    → (list : List (List ℕ)) × Records list intake.rest (taken_in feeds) × AllZip (IsItem mode) list (items_of feeds)
    × (intake.mode ≡ mode) × (intake.records ≡ length list) × (end_of intake.records intake.rest ≢ TooMany)
records_given mode feeds intake fed =
    let all = all_taken (fresh mode) feeds intake (fresh_settled mode) fed in
    (all.list, all.splits, all.given, all.mode, omega (arith, all.records), all.ends)

-- the end of the joined pieces, by the answer to the last one
answer_is : (mode : Mode) (feeds : List Feed) (old new : IntakeValue) (piece : List ℕ) (items : List Item) (answer : Result (Unit {0}) FeedFault) → Feeds (fresh mode) feeds old
    → MatchResult answer (λ _. TakesIn old piece items new) (λ why. FeedFails old piece why × (items ≡ []) × (new ≡ old))
    → (list : List (List ℕ)) (rest : List ℕ) → Records list rest (taken_in feeds ++ piece) → IsAnswer answer (end_of (length list) rest)
answer_is mode feeds old new piece items (Ok _) fed last list rest known =
    let front = all_taken (fresh mode) feeds old (fresh_settled mode) fed in
    let all = takes_more (fresh mode) old new (taken_in feeds) piece (items_of feeds) items (omega arith) front last in
    let same = unique MOST all.list list new.rest rest (taken_in feeds ++ piece) all.splits known in
    let count : new.records ≡ length list = omega (arith, all.records, ap (length {A = List ℕ}) same.0) in
    λ e. all.ends (ap₂ end_of count same.1 ∙ e)
answer_is mode feeds old new piece items (Err why) fed last list rest known =
    let front = all_taken (fresh mode) feeds old (fresh_settled mode) fed in
    fault_is why (fails_behind (fresh mode) old (taken_in feeds) piece (items_of feeds) why (omega arith) front last.0)
  where
    fault_is : (why : FeedFault) → FeedFails (fresh mode) (taken_in feeds ++ piece) why → IsAnswer (Err why) (end_of (length list) rest)
    fault_is fault.Truncated fails = fails
    fault_is fault.RecordTooLong fails = fails
    fault_is fault.OutOfMemory fails = tt
    fault_is fault.TooManyFrames fails =
        let same = unique MOST list fails.0 rest fails.1 (taken_in feeds ++ piece) known fails.2 in
        let count : length list ≡ 0 + length fails.0 = omega (arith, ap (length {A = List ℕ}) same.0) in
        ap₂ end_of count same.1 ∙ fails.3

pub answers_are : (mode : Mode) (feeds : List Feed) (old new : IntakeValue) (feed : Feed) → Feeds (fresh mode) feeds old → Fed old feed new
    → (list : List (List ℕ)) (rest : List ℕ) → Records list rest (taken_in feeds ++ feed.piece) → IsAnswer feed.answer (end_of (length list) rest)
answers_are mode feeds old new feed fed last = answer_is mode feeds old new feed.piece feed.items feed.answer fed last

-- A refused record is not refused for want of memory.
refuses_no_memory : (mode : Mode) (octets : List ℕ) (refusal : Refusal) → Refuses mode octets refusal → refusal.why ≢ OutOfMemory
refuses_no_memory Tolerant octets refusal refuses = refuses.2
refuses_no_memory Strict octets refusal (inl refuses) = refuses.2
refuses_no_memory Strict octets refusal (inr refuses) = λ e. let i : NotCanonical ≡ OutOfMemory = sym refuses.5 ∙ e in cc

pub no_memory : (mode : Mode) (octets : List ℕ) (refusal : Refusal) → IsItem mode octets (Err refusal) → refusal.why ≢ OutOfMemory
no_memory mode octets refusal item = refuses_no_memory mode octets refusal item.1

-- feeds behind others
pub feeds_on : (old mid new : IntakeValue) (feeds more : List Feed) → Feeds old feeds mid → Feeds mid more new → Feeds old (feeds ++ more) new
feeds_on old mid new [] more h k = subst (λ (i : IntakeValue). Feeds i more new) h k
feeds_on old mid new (feed ∷ feeds) more h k = (h.0, h.1, feeds_on h.0 mid new feeds more h.2 k)

-- ---- what an item gives

module _ (frames : (f g : FrameValue) (b : List ℕ) → SpellsFrame f b → SpellsFrame g b → f ≡ g) where
  pub tolerant_gives_frame : (octets : List ℕ) (frame : Frame) → SpellsFrame (value_of frame) octets → GivesItsValue SpellsFrame octets (Ok frame)
  tolerant_gives_frame octets frame is = λ value. (λ s. frames value (value_of frame) octets s is, λ e. subst (λ (f : FrameValue). SpellsFrame f octets) (sym e) is)

  pub tolerant_gives : (octets : List ℕ) (item : Item) → IsItem Tolerant octets item → GivesItsValue SpellsFrame octets item
  tolerant_gives octets (Ok frame) is = tolerant_gives_frame octets frame is
  tolerant_gives octets (Err refusal) is = is.0

  pub strict_gives : (octets : List ℕ) (item : Item) → IsItem Strict octets item → GivesItsValue IsCanonicalFor octets item
  strict_gives octets (Ok frame) is = λ value. (λ s. frames value (value_of frame) octets s.member is.member, λ e. subst (λ (f : FrameValue). IsCanonicalFor f octets) (sym e) is)
  strict_gives octets (Err refusal) is = is.0
