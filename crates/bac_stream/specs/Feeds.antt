-- A stream that is fed to an intake, one piece after another.
use Rattle.std.specs.Prelude.{◌≡◌, ◌≢◌, ℕ, List, [], ◌∷◌, flat_map, ⊤, Result, Ok, Err, MatchResult}
use Rattle.bac_record.specs.Records.{End, TooMany}
use Rattle.bac_stream.specs.Intakes.{IntakeValue, Item, TakesIn, FeedFails}
use Rattle.bac_stream.specs.declared.feed_faults.FeedFault.{FeedFault}
use Rattle.bac_stream.specs.declared.feed_faults.FeedFault.TheVariants.{Truncated, RecordTooLong, TooManyFrames, OutOfMemory}

-- A feed: its piece, the items that it gave, and its answer.
pub record Feed : Type 0 where
  pub piece : List ℕ
  pub items : List Item
  pub answer : Result (Unit {0}) FeedFault

-- The feed makes the new intake of the old one: it was taken in; or it failed, gave no items, and the intake is as it was.
abbrev pub Fed : IntakeValue → Feed → IntakeValue → Type 0
Fed old feed new = MatchResult feed.answer (λ _. TakesIn old feed.piece feed.items new)
    (λ fault. FeedFails old feed.piece fault × (feed.items ≡ []) × (new ≡ old))

-- These feeds, one after another, make the new intake of the old one.
abbrev pub Feeds : IntakeValue → List Feed → IntakeValue → Type 0
Feeds old [] new = new ≡ old
Feeds old (feed ∷ feeds) new = (mid : IntakeValue) × Fed old feed mid × Feeds mid feeds new

-- The piece if it was answered Ok, else nothing.
abbrev pub where_ok : Result (Unit {0}) FeedFault → List ℕ → List ℕ
where_ok (Ok _) piece = piece
where_ok (Err fault) piece = []

-- The pieces that were answered Ok, joined.
abbrev pub taken_in : List Feed → List ℕ
taken_in feeds = flat_map (λ feed. where_ok feed.answer feed.piece) feeds

-- All the items of the feeds, in order.
abbrev pub items_of : List Feed → List Item
items_of feeds = flat_map (λ feed. feed.items) feeds

-- How the piece with which a stream has this end may be answered: TooManyFrames if it has too many records, Ok if not,
-- OutOfMemory in both cases.
abbrev pub IsAnswer : Result (Unit {0}) FeedFault → End → Type 0
IsAnswer (Ok _) end = end ≢ TooMany
IsAnswer (Err TooManyFrames) end = end ≡ TooMany
IsAnswer (Err OutOfMemory) end = ⊤
IsAnswer (Err Truncated) end = ⊥
IsAnswer (Err RecordTooLong) end = ⊥
