-- What C gets of a message that is cut into records or joined from them. Codes are those of enum bactool_code in
-- include/bactool.h.
use Rattle.std.specs.Prelude.{◌≡◌, ℕ, List}
use Rattle.bac_tag.specs.declared.refusals.Refusal.{Refusal}
use Rattle.bac_segment.specs.declared.cutting.CutFault.TheVariants as cut
use Rattle.bac_segment.specs.declared.faults.TakeFault.TheVariants as take
use Rattle.bac_message.specs.declared.faults.FrameCutFault.TheVariants.{NoService, Cut}
use Rattle.bac_message.specs.declared.faults.FrameJoinFault.TheVariants as frames
use Rattle.bac_message.specs.declared.record_faults.RecordCutFault.{RecordCutFault}
use Rattle.bac_message.specs.declared.record_faults.RecordCutFault.TheVariants as uncut
use Rattle.bac_message.specs.declared.record_faults.RecordJoinFault.{RecordJoinFault}
use Rattle.bac_message.specs.declared.record_faults.RecordJoinFault.TheVariants as unjoined
use Rattle.bac_message.specs.FrameRecords.{IsRecordCutFault, IsRecordJoinFault}
use Rattle.bac_c.specs.declared.outcomes.Outcome.{Outcome}
use Rattle.bac_c.specs.Outcomes.{differs_at, nothing, number_of, refused_as, without_memory}

-- ---- cutting

-- The code for why octets are not cut: 3 (REFUSED), 8 (NO_SERVICE), 9 (BAD_SIZE), 10 (BAD_WINDOW), 11 (TOO_LONG), 12 (TOO_MANY)
-- or 7 (NO_MEMORY).
abbrev pub cut_code : RecordCutFault → ℕ
cut_code (uncut.Refused refusal) = 3
cut_code (uncut.Frame NoService) = 8
cut_code (uncut.Frame (Cut cut.Size)) = 9
cut_code (uncut.Frame (Cut cut.Window)) = 10
cut_code (uncut.Frame (Cut cut.TooLong)) = 11
cut_code (uncut.Frame (Cut cut.TooMany)) = 12
cut_code (uncut.Frame (Cut cut.OutOfMemory)) = 7
cut_code uncut.TooLong = 11
cut_code uncut.OutOfMemory = 7

-- The outcome for why octets are not cut. Only a refusal has a reason and a place.
abbrev pub cut_outcome : RecordCutFault → Outcome
cut_outcome (uncut.Refused refusal) = refused_as refusal
cut_outcome (uncut.Frame NoService) = nothing
cut_outcome (uncut.Frame (Cut cut.OutOfMemory)) = without_memory
cut_outcome (uncut.Frame (Cut _)) = nothing
cut_outcome uncut.TooLong = nothing
cut_outcome uncut.OutOfMemory = without_memory

-- The code and the outcome are those of a reason for which the octets are not cut by this size and window.
abbrev pub TellsUncut : List ℕ → ℕ → ℕ → ℕ → Outcome → Type 0
TellsUncut octets size window code outcome = (fault : RecordCutFault) × IsRecordCutFault octets size window fault × (code ≡ cut_code fault) × (outcome ≡ cut_outcome fault)

-- ---- joining

-- The code for why records are not joined: 3 (REFUSED), 13 (TRUNCATED), 14 (NO_SEGMENT), 15 (CONFLICT), 11 (TOO_LONG),
-- 16 (INCOMPLETE), 17 (SERVICE_REFUSED) or 7 (NO_MEMORY).
abbrev pub join_code : RecordJoinFault → ℕ
join_code (unjoined.Truncated index) = 13
join_code (unjoined.Refused index refusal) = 3
join_code (unjoined.Frames (frames.NotSegment index)) = 14
join_code (unjoined.Frames (frames.Conflict index)) = 15
join_code (unjoined.Frames (frames.Segment index take.TooLarge)) = 11
join_code (unjoined.Frames (frames.Segment index _)) = 15
join_code (unjoined.Frames (frames.Incomplete number)) = 16
join_code (unjoined.Frames (frames.Content refusal)) = 17
join_code (unjoined.Frames frames.OutOfMemory) = 7
join_code unjoined.OutOfMemory = 7

-- The outcome of a record that is refused: its reason and its place in the octets of the record, and as the count the index
-- of the record.
abbrev pub record_refused_as : ℕ → Refusal → Outcome
record_refused_as index refusal = record { why = number_of refusal.why; place = refusal.place; count = index; fields = 0 }

-- The outcome for why records are not joined. The place is the index of a record or the number of a segment, and of a refusal
-- that of an octet.
abbrev pub join_outcome : RecordJoinFault → Outcome
join_outcome (unjoined.Truncated index) = differs_at index
join_outcome (unjoined.Refused index refusal) = record_refused_as index refusal
join_outcome (unjoined.Frames (frames.NotSegment index)) = differs_at index
join_outcome (unjoined.Frames (frames.Conflict index)) = differs_at index
join_outcome (unjoined.Frames (frames.Segment index fault)) = differs_at index
join_outcome (unjoined.Frames (frames.Incomplete number)) = differs_at number
join_outcome (unjoined.Frames (frames.Content refusal)) = refused_as refusal
join_outcome (unjoined.Frames frames.OutOfMemory) = without_memory
join_outcome unjoined.OutOfMemory = without_memory

-- The code and the outcome are those of a reason for which the records are not joined.
abbrev pub TellsUnjoined : List ℕ → ℕ → Outcome → Type 0
TellsUnjoined records code outcome = (fault : RecordJoinFault) × IsRecordJoinFault records fault × (code ≡ join_code fault) × (outcome ≡ join_outcome fault)
