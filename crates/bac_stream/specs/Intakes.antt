-- Streams of records that come in pieces.
use Rattle.std.specs.Prelude.{◌≡◌, ◌≢◌, ◌↔◌, ℕ, ◌+◌, ◌-◌, ◌<◌, Option, Some, None, List, [], ◌∷◌, ◌++◌, length, refl, Result, Ok, Err}
use Rattle.std.specs.List.{AllZip}
use Rattle.std.specs.Coded.{Coded, code_by, coded×, coded_ℕ, coded_list}
use Rattle.bac_tag.specs.declared.refusals.Refusal.{Refusal}
use Rattle.bac_tag.specs.declared.refusals.Why.TheVariants.{NotCanonical}
use Rattle.bac_npdu_parts.specs.declared.frame.Frame.{Frame}
use Rattle.bac_npdu_parts.specs.Frames.{FrameValue, value_of}
use Rattle.bac_record.specs.Records.{RecordsUpTo, BeginsRecord, MOST, TooMany, end_of}
use Rattle.bac_stream.specs.Judging.{Accepts, IsRefused, Refuses}
use Rattle.bac_stream.specs.declared.modes.Mode.{Mode}
use Rattle.bac_stream.specs.declared.modes.Mode.TheVariants.{Strict}
use Rattle.bac_stream.specs.contracts.modes.Mode.{the_row}
use Rattle.bac_stream.specs.declared.feed_faults.FeedFault.{FeedFault}
use Rattle.bac_stream.specs.declared.feed_faults.FeedFault.TheVariants.{Truncated, RecordTooLong, TooManyFrames, OutOfMemory}

-- The value of an intake: a mode, how many records were whole so far, and the octets after them.
pub record IntakeValue : Type 0 where
  pub mode : Mode
  pub records : ℕ
  pub rest : List ℕ

-- How the logic stores the value of an intake.
abbrev pub intake_code : Coded IntakeValue
intake_code =
    code_by (Mode × (ℕ × List ℕ)) (coded× the_row.coded (coded× coded_ℕ (coded_list coded_ℕ))) (λ s. (s.mode, (s.records, s.rest)))
    (λ p. record { mode = p.0; records = p.1.0; rest = p.1.1 }) (λ s. refl)

-- An intake that was given nothing: it has no record and no octets.
abbrev pub fresh : Mode → IntakeValue
fresh mode = record { mode = mode; records = 0; rest = [] }

-- What a record gives, a frame or a refusal.
abbrev pub Item : Type 0
Item = Result Frame Refusal

-- In the mode the octets may give this item: they are accepted as the frame; or they are accepted as none, and the refusal is
-- one that they may have.
abbrev pub IsItem : Mode → List ℕ → Item → Type 0
IsItem mode octets (Ok frame) = Accepts mode (value_of frame) octets
IsItem mode octets (Err refusal) = IsRefused mode octets × Refuses mode octets refusal

-- The item is the one frame that the octets spell, or a refusal if they spell none.
abbrev pub GivesItsValue : (FrameValue → List ℕ → Type 0) → List ℕ → Item → Type 0
GivesItsValue Spells octets (Ok frame) = (value : FrameValue) → Spells value octets ↔ (value ≡ value_of frame)
GivesItsValue Spells octets (Err refusal) = (value : FrameValue) → Spells value octets → ⊥

-- In the mode the item is that of a frame with this mark. It is the frame, and in mode Strict there is no mark; or in mode
-- Strict it is the refusal of octets that are not canonical, at the mark.
abbrev pub IsItemOf : Mode → FrameValue → Option ℕ → Item → Type 0
IsItemOf mode frame mark (Ok kept) = (value_of kept ≡ frame) × (mode ≡ Strict → mark ≡ None)
IsItemOf mode frame mark (Err refusal) = (mode ≡ Strict) × (mark ≡ Some refusal.place) × (refusal.why ≡ NotCanonical)

-- An item of a frame with this mark was appended, or memory was refused and nothing was appended.
abbrev pub IsItemPushed : {E : Type 0} → Mode → FrameValue → Option ℕ → List Item → List Item → Result Unit E → Type 0
IsItemPushed mode frame mark old new (Ok done) = (item : Item) × IsItemOf mode frame mark item × (new ≡ old ++ item ∷ [])
IsItemPushed mode frame mark old new (Err refused) = new ≡ old

-- After so many records the octets are these records and this rest, by RecordsUpTo: with those before, at most 1,000,000.
abbrev pub RecordsBehind : ℕ → List (List ℕ) → List ℕ → List ℕ → Type 0
RecordsBehind before list rest octets = RecordsUpTo (MOST - before) list rest octets

-- A piece was taken in: the octets held and the piece are records and a rest, by RecordsBehind. There is an item for each of
-- the records, in order. The rest is held, the records are counted, the mode stays, and no octet follows 1,000,000 records.
pub record TakesIn (old : IntakeValue) (piece : List ℕ) (items : List Item) (new : IntakeValue) : Type 0 where
  pub list : List (List ℕ)
  pub splits : RecordsBehind old.records list new.rest (old.rest ++ piece)
  pub given : AllZip (IsItem old.mode) list items
  pub mode : new.mode ≡ old.mode
  pub records : new.records ≡ old.records + length list
  pub ends : end_of new.records new.rest ≢ TooMany

-- With the piece, octets follow 1,000,000 records.
abbrev pub HasTooMany : IntakeValue → List ℕ → Type 0
HasTooMany old piece = (list : List (List ℕ)) × (rest : List ℕ) × RecordsBehind old.records list rest (old.rest ++ piece)
    × (end_of (old.records + length list) rest ≡ TooMany)

-- With the piece, a record is whole and may still be added.
abbrev pub CompletesRecord : IntakeValue → List ℕ → Type 0
CompletesRecord old piece = (old.records < MOST) × BeginsRecord (old.rest ++ piece)

-- When each fault of a feed may come: TooManyFrames if HasTooMany, OutOfMemory if CompletesRecord, the others never.
abbrev pub FeedFails : IntakeValue → List ℕ → FeedFault → Type 0
FeedFails old piece Truncated = ⊥
FeedFails old piece RecordTooLong = ⊥
FeedFails old piece TooManyFrames = HasTooMany old piece
FeedFails old piece OutOfMemory = CompletesRecord old piece
