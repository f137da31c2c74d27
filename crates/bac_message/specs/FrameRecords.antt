-- Messages as records of frames. A record is two octets of length, and then the octets of one frame.
use Rattle.std.specs.Prelude.{◌≡◌, ◌≢◌, ◌<◌, ℕ, List, [], ◌∷◌, ◌++◌, length}
use Rattle.bac_tag.specs.declared.refusals.Refusal.{Refusal}
use Rattle.bac_tag.specs.declared.refusals.Why.TheVariants as why
use Rattle.bac_tag.specs.Spelling.{IsLeast}
use Rattle.bac_npdu_parts.specs.Decoded.{IsRefused}
use Rattle.bac_npdu_parts.specs.Frames.{FrameValue, SpellsFrame}
use Rattle.bac_record.specs.Records.{BeginsRecord, IsRecord, LONGEST, record_of}
use Rattle.bac_message.specs.CutFrames.{IsCutFrame, IsFrameCutFault}
use Rattle.bac_message.specs.FrameCuts.{IsOneFrame}
use Rattle.bac_message.specs.JoinedFrames.{IsFrameJoinFault, IsJoinedFrame}
use Rattle.bac_message.specs.declared.record_faults.RecordCutFault.{RecordCutFault}
use Rattle.bac_message.specs.declared.record_faults.RecordCutFault.TheVariants as uncut
use Rattle.bac_message.specs.declared.record_faults.RecordJoinFault.{RecordJoinFault}
use Rattle.bac_message.specs.declared.record_faults.RecordJoinFault.TheVariants as unjoined

-- The octets are a record for each frame, in order, and the octets of each record are as Has says.
abbrev pub AreRecords : (FrameValue → List ℕ → Type 0) → List FrameValue → List ℕ → Type 0
AreRecords Has [] records = records ≡ []
AreRecords Has (frame ∷ frames) records =
    (octets more : List ℕ) × Has frame octets × IsRecord octets × AreRecords Has frames more × (records ≡ record_of octets ++ more)

-- The octets are a record for each frame, which spells the frame.
abbrev pub SpellRecords : List FrameValue → List ℕ → Type 0
SpellRecords = AreRecords SpellsFrame

-- The octets are a record for each frame, with the canonical octets of the frame.
abbrev pub AreLeastRecords : List FrameValue → List ℕ → Type 0
AreLeastRecords = AreRecords (λ frame. IsLeast (SpellsFrame frame))

-- The octets spell no frame, and the refusal says why and where, but not that memory was refused.
abbrev pub IsNoFrame : List ℕ → Refusal → Type 0
IsNoFrame octets refusal = IsRefused octets refusal × (refusal.why ≢ why.OutOfMemory)

-- ---- cutting

-- The octets spell a frame in one piece, and these are the records of its segments, by IsCutFrame.
pub record IsCutIntoRecords (octets : List ℕ) (size window : ℕ) (records : List ℕ) : Type 0 where
  pub frame : FrameValue
  pub spelled : SpellsFrame frame octets
  pub cuts : List FrameValue
  pub cut : IsCutFrame frame size window cuts
  pub records_are : AreLeastRecords cuts records

-- One of the frames has more canonical octets than a record.
abbrev pub HasTooLong : List FrameValue → Type 0
HasTooLong frames = (frame : FrameValue) × (octets : List ℕ) × IsOneFrame frames frame × IsLeast (SpellsFrame frame) octets × (LONGEST < length octets)

-- Why octets are not cut into records. Refused: they spell no frame. Frame: the frame that they spell is not cut, for this
-- reason. TooLong: it is cut, and a segment's frame has more octets than a record. OutOfMemory: memory was refused.
abbrev pub IsRecordCutFault : List ℕ → ℕ → ℕ → RecordCutFault → Type 0
IsRecordCutFault octets size window (uncut.Refused refusal) = IsNoFrame octets refusal
IsRecordCutFault octets size window (uncut.Frame fault) = (frame : FrameValue) × SpellsFrame frame octets × IsFrameCutFault frame size window fault
IsRecordCutFault octets size window uncut.TooLong =
    (frame : FrameValue) × SpellsFrame frame octets × ((cuts : List FrameValue) × IsCutFrame frame size window cuts × HasTooLong cuts)
IsRecordCutFault octets size window uncut.OutOfMemory = Unit {0}

-- ---- joining

-- The records spell frames, which are joined to one by IsJoinedFrame, and these are its canonical octets.
pub record IsJoinedOfRecords (records canonical : List ℕ) : Type 0 where
  pub frames : List FrameValue
  pub spelled : SpellRecords frames records
  pub frame : FrameValue
  pub joined : IsJoinedFrame frames frame
  pub is_least : IsLeast (SpellsFrame frame) canonical

-- The octets are a record for each of so many frames, and then this rest.
abbrev pub HasRest : ℕ → List ℕ → List ℕ → Type 0
HasRest count records rest = (frames : List FrameValue) × (front : List ℕ) × SpellRecords frames front × (count ≡ length frames) × (records ≡ front ++ rest)

-- Why records are not joined. Truncated: after so many frames is the beginning of a record that is not whole. Refused: after
-- so many frames is a record that spells no frame. Frames: each record spells a frame, and these are not joined, for
-- this reason. OutOfMemory: memory was refused.
abbrev pub IsRecordJoinFault : List ℕ → RecordJoinFault → Type 0
IsRecordJoinFault records (unjoined.Truncated count) = (rest : List ℕ) × HasRest count records rest × (rest ≢ []) × (BeginsRecord rest → ⊥)
IsRecordJoinFault records (unjoined.Refused count refusal) =
    (octets more : List ℕ) × IsRecord octets × HasRest count records (record_of octets ++ more) × IsNoFrame octets refusal
IsRecordJoinFault records (unjoined.Frames fault) = (frames : List FrameValue) × SpellRecords frames records × IsFrameJoinFault frames fault
IsRecordJoinFault records unjoined.OutOfMemory = Unit {0}
