-- What a run over a file of records leaves in its reader and its writer. In these definitions line says what the output of a
-- record may be, and stops with which refusal a record ends the run. What the reader has left and what the writer has taken are
-- left and taken before the run, and left' and taken' after it.
use Rattle.std.specs.Prelude.{◌≡◌, ◌≢◌, ◌⊎◌, ℕ, ◌+◌, ◌*◌, ◌<◌, ◌≤◌, List, [], ◌++◌, length, Option, ⊤}
use Rattle.std.specs.List.{AllByRecursion}
use Rattle.std.specs.Io.KnownBytes.{Consumes, Appends, IsAtEnd}
use Rattle.bac_tag.specs.declared.refusals.Refusal.{Refusal}
use Rattle.bac_record.specs.Devices.{HasRisen}
use Rattle.bac_record.specs.Records.{record_of, joined, IsRecord, BeginsRecord, MOST, HELD, End, Clean, TooMany, end_of}
use Rattle.bac_record.specs.Records as records
use Rattle.bac_record.specs.Outputs.{Outputs, Tally}
use Rattle.bac_record.specs.declared.faults.StreamFault.TheVariants.{Truncated, RecordTooLong, ReadFault, WriteFault, TooManyFrames, OutOfMemory}
use Rattle.bac_record.specs.declared.faults.RunFault.{RunFault}
use Rattle.bac_record.specs.declared.faults.RunFault.TheVariants.{Stream, Frame}
use Rattle.bac_record.specs.declared.summaries.Summary.{Summary}

-- The summary is that of these records: how many they are, how many of them are canonical, and how many are refused.
pub record Sums (is_canonical is_refused : List ℕ → Type 0) (list : List (List ℕ)) (summary : Summary) : Type 0 where
  pub records : summary.records ≡ length list
  pub canonical : Tally is_canonical list summary.canonical
  pub refused : Tally is_refused list summary.refused

-- A run ended well: the reader gave these records and is at its end, the writer took their outputs and no more, and the summary
-- is theirs.
pub record RanThrough (line : ℕ → List ℕ → List ℕ → Type 0) (is_canonical is_refused : List ℕ → Type 0)
    (left left' taken taken' : Option (List ℕ)) (summary : Summary) : Type 0 where
  pub list : List (List ℕ)
  pub output : List ℕ
  pub each : AllByRecursion IsRecord list
  pub few : length list ≤ MOST
  pub read : Consumes left left' (joined list)
  pub ended : IsAtEnd left'
  pub outputs : Outputs line 1 list output
  pub wrote : Appends taken taken' output
  pub sums : Sums is_canonical is_refused list summary

-- The fault is another than want of memory.
abbrev pub IsOtherThanMemory : RunFault → Type 0
IsOtherThanMemory (Stream at OutOfMemory) = ⊥
IsOtherThanMemory fault = ⊤

-- If memory was wanted, then before anything was read or written: the fault names the first record, and the reader and the writer
-- are as they were.
abbrev pub OnlyBeforeReading : {R W : Type 0} → R → R → W → W → RunFault → Type 0
OnlyBeforeReading reader reader' writer writer' (Stream at OutOfMemory) = (at ≡ 1) × (reader' ≡ reader) × (writer' ≡ writer)
OnlyBeforeReading reader reader' writer writer' fault = ⊤

-- The number of the record at fault.
abbrev pub number_of : RunFault → ℕ
number_of (Stream at fault) = at
number_of (Frame at refusal) = at

-- After so many records the rest begins with no record that could be added, and a file with this rest has this end.
abbrev pub HasEnd : ℕ → List ℕ → End → Type 0
HasEnd count rest end = (count ≤ MOST) × (count < MOST → BeginsRecord rest → ⊥) × (end_of count rest ≡ end)

-- After so many records the rest is less than a record, and more of it may come.
abbrev pub Waits : ℕ → List ℕ → Type 0
Waits count rest = HasEnd count rest Clean ⊎ HasEnd count rest records.Truncated

-- After so many records one record more is at the front of the rest and may be added, and P holds of it.
abbrev pub NextRecord : ℕ → List ℕ → (List ℕ → Type 0) → Type 0
NextRecord count rest P = (count < MOST) × (octets more : List ℕ) × IsRecord octets × (rest ≡ record_of octets ++ more) × P octets

-- When each fault comes, by the number of records dealt with and the rest that was read after them.
-- Truncated: the rest is less than a record, and the reader is at its end.
-- RecordTooLong: never, since no record is too long.
-- TooManyFrames: an octet comes after 1,000,000 records.
-- ReadFault: the rest is less than a record so far.
-- WriteFault: there is one more record.
-- OutOfMemory: nothing was read yet, or there is one more record.
-- Frame, a refused record in normalise: there is one more record, with a refusal that it may have.
abbrev pub IsCause : (List ℕ → Refusal → Type 0) → ℕ → List ℕ → Option (List ℕ) → RunFault → Type 0
IsCause stops count rest left' (Stream at Truncated) = HasEnd count rest records.Truncated × IsAtEnd left'
IsCause stops count rest left' (Stream at RecordTooLong) = ⊥
IsCause stops count rest left' (Stream at TooManyFrames) = HasEnd count rest TooMany
IsCause stops count rest left' (Stream at ReadFault) = Waits count rest
IsCause stops count rest left' (Stream at (WriteFault written)) = NextRecord count rest (λ octets. ⊤)
-- The memory was for what a run begins with, or for what it makes of a record.
IsCause stops count rest left' (Stream at OutOfMemory) = ((count ≡ 0) × (rest ≡ [])) ⊎ NextRecord count rest (λ octets. ⊤)
IsCause stops count rest left' (Frame at refusal) = NextRecord count rest (λ octets. stops octets refusal)

-- What the writer took before a fault: the outputs of the records dealt with. After a write fault it also took a part of the
-- next one's, which is not all of it, and the number in the fault is that of all octets taken.
abbrev pub IsWritten : (ℕ → List ℕ → List ℕ → Type 0) → List (List ℕ) → List ℕ → List ℕ → RunFault → Type 0
IsWritten line list rest written (Stream at (WriteFault count)) = (count ≡ length written)
    × (output part unsent : List ℕ) × Outputs line 1 list output × (written ≡ output ++ part)
    × NextRecord (length list) rest (λ octets. line (length list + 1) octets (part ++ unsent)) × (unsent ≢ [])
IsWritten line list rest written fault = Outputs line 1 list written

-- By the reader's count of the octets that it gave, at most 1,000,000 times 65,537 of them were read, and 65,537 besides. So it
-- is also of a reader that never ends.
abbrev pub ReadsAtMost : ℕ → ℕ → Type 0
ReadsAtMost given given' = given' ≤ given + (MOST * HELD + HELD)

-- A run stopped with a fault: these records were dealt with whole, and the fault names the next one. The rest that was read
-- after them may reach past that record, since a run reads by pieces. It is at most HELD, 65,537 octets.
pub record Stopped (line : ℕ → List ℕ → List ℕ → Type 0) (stops : List ℕ → Refusal → Type 0)
    (left left' taken taken' : Option (List ℕ)) (fault : RunFault) : Type 0 where
  pub list : List (List ℕ)
  pub rest : List ℕ
  pub written : List ℕ
  pub each : AllByRecursion IsRecord list
  pub few : length list ≤ MOST
  pub held : length rest ≤ HELD
  pub read : Consumes left left' (joined list ++ rest)
  pub wrote : Appends taken taken' written
  pub number : number_of fault ≡ length list + 1
  pub cause : IsCause stops (length list) rest left' fault
  pub outputs : IsWritten line list rest written fault

-- The reader's failures rose if the fault is ReadFault, the writer's if it is WriteFault, and else they stay.
abbrev pub RunCounts : ℕ → ℕ → ℕ → ℕ → RunFault → Type 0
RunCounts read read' write write' (Stream at ReadFault) = HasRisen read read' × (write' ≡ write)
RunCounts read read' write write' (Stream at (WriteFault count)) = (read' ≡ read) × HasRisen write write'
RunCounts read read' write write' _ = (read' ≡ read) × (write' ≡ write)
