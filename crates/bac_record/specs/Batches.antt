-- What is whole in the octets that a run holds, and what it made of it. Public contracts use only IsPartial and IsFront. The
-- others say what a run holds between a read and a write.
use Rattle.std.specs.Prelude.{◌≡◌, ◌⊎◌, ℕ, ◌+◌, ◌*◌, ◌<◌, ◌≤◌, List, [], ◌∷◌, ◌++◌, length, take, get_or, vec_capacity, ⊤, Option, Some, None}
use Rattle.std.specs.List.{AllByRecursion}
use Rattle.bac_tag.specs.declared.refusals.Refusal.{Refusal}
use Rattle.bac_record.specs.Records.{record_of, joined, IsRecord, BeginsRecord, MOST, LONGEST, TooMany}
use Rattle.bac_record.specs.Outputs.{OutputsWithEnds}
use Rattle.bac_record.specs.Runs.{Sums, HasEnd, NextRecord, Waits}
use Rattle.bac_record.specs.declared.batches.Batch.{Batch}
use Rattle.bac_record.specs.declared.faults.StreamFault.TheVariants.{Truncated, RecordTooLong, ReadFault, WriteFault, TooManyFrames, OutOfMemory}
use Rattle.bac_record.specs.declared.faults.RunFault.{RunFault}
use Rattle.bac_record.specs.declared.faults.RunFault.TheVariants.{Stream, Frame}

-- The octets are less than a record.
abbrev pub IsPartial : List ℕ → Type 0
IsPartial octets = (BeginsRecord octets → ⊥) × (length octets < LONGEST + 2)

-- This record is at the front of the octets.
abbrev pub IsFront : List ℕ → List ℕ → Type 0
IsFront first octets = (more : List ℕ) × IsRecord first × (octets ≡ record_of first ++ more)

-- The count rises by one if P holds, and else it stays.
abbrev pub Counts : Type 0 → ℕ → ℕ → Type 0
Counts P old new = (P × (new ≡ old + 1)) ⊎ ((P → ⊥) × (new ≡ old))

-- The batch holds what was made of one record more, the one of this number.
pub record IsAdded (line : ℕ → List ℕ → List ℕ → Type 0) (is_canonical is_refused : List ℕ → Type 0)
    (number : ℕ) (octets : List ℕ) (old new : Batch) : Type 0 where
  pub output : List ℕ
  pub is_output : line number octets output
  pub appended : new.output.items ≡ old.output.items ++ output
  pub ends : new.ends.items ≡ old.ends.items ++ length new.output.items ∷ []
  pub records : new.summary.records ≡ old.summary.records + 1
  pub canonical : Counts (is_canonical octets) old.summary.canonical new.summary.canonical
  pub refused : Counts (is_refused octets) old.summary.refused new.summary.refused

-- The most records that are whole in what a run holds: each has at least its two length octets.
abbrev pub MOST_HELD : ℕ
MOST_HELD = 32768

-- The batch of a job that needs only room, so many octets for each record: it has capacity for as many records as a run may hold,
-- and its outputs are no longer than that.
pub record HasRoom (room : ℕ) (batch : Batch) : Type 0 where
  pub some : 0 < room
  pub ends : MOST_HELD ≤ vec_capacity batch.ends
  pub output : MOST_HELD * room ≤ vec_capacity batch.output
  pub within : length batch.output.items ≤ length batch.ends.items * room

-- The batch holds the same as before, since nothing was made of the next record.
pub record IsSame (old new : Batch) : Type 0 where
  pub output : new.output.items ≡ old.output.items
  pub ends : new.ends.items ≡ old.ends.items
  pub summary : new.summary ≡ old.summary

-- The batch holds what was made of these records, in order, of which the first has this number.
pub record Holds (line : ℕ → List ℕ → List ℕ → Type 0) (is_canonical is_refused : List ℕ → Type 0)
    (number : ℕ) (list : List (List ℕ)) (batch : Batch) : Type 0 where
  pub each : AllByRecursion IsRecord list
  pub outputs : OutputsWithEnds line number 0 list batch.output.items batch.ends.items
  pub sums : Sums is_canonical is_refused list batch.summary

-- The first so many of the octets are records, and the batch holds what was made of them. As many records as before says were
-- dealt with earlier.
pub record Deals (line : ℕ → List ℕ → List ℕ → Type 0) (is_canonical is_refused : List ℕ → Type 0)
    (before : ℕ) (octets : List ℕ) (count : ℕ) (batch : Batch) : Type 0 where
  pub list : List (List ℕ)
  pub within : count ≤ length octets
  pub whole : take count octets ≡ joined list
  pub few : before + length list ≤ MOST
  pub holds : Holds line is_canonical is_refused (before + 1) list batch

-- The fault is one that the octets after so many records show.
abbrev pub IsFound : (List ℕ → Refusal → Type 0) → ℕ → List ℕ → RunFault → Type 0
IsFound stops count rest (Stream at TooManyFrames) = (at ≡ count + 1) × HasEnd count rest TooMany
IsFound stops count rest (Stream at OutOfMemory) = (at ≡ count + 1) × NextRecord count rest (λ octets. ⊤)
IsFound stops count rest (Frame at refusal) = (at ≡ count + 1) × NextRecord count rest (λ octets. stops octets refusal)
IsFound stops count rest (Stream at RecordTooLong) = ⊥
IsFound stops count rest (Stream at Truncated) = ⊥
IsFound stops count rest (Stream at ReadFault) = ⊥
IsFound stops count rest (Stream at (WriteFault written)) = ⊥

-- The fault is that the record of this number was not dealt with: memory was refused, or it has a refusal that stops the run.
abbrev pub IsAddFault : (Refusal → Type 0) → ℕ → RunFault → Type 0
IsAddFault stops number (Stream at OutOfMemory) = at ≡ number
IsAddFault stops number (Stream at _) = ⊥
IsAddFault stops number (Frame at refusal) = (at ≡ number) × stops refusal

-- Why no further record is dealt with after so many records: a fault that the octets show, or there is less than a record.
abbrev pub Halts : (List ℕ → Refusal → Type 0) → ℕ → List ℕ → Option RunFault → Type 0
Halts stops count rest None = Waits count rest × (length rest < LONGEST + 2)
Halts stops count rest (Some fault) = IsFound stops count rest fault

-- The index is that of the first of the ends that is past this place, or their number if there is none.
abbrev pub IsFirstPast : List ℕ → ℕ → ℕ → Type 0
IsFirstPast ends place index =
    (index ≤ length ends) × ((k : ℕ) → k < index → get_or ends k 0 ≤ place) × (index < length ends → place < get_or ends index 0)
