-- What a run over a file of known octets answers and writes.
use Rattle.std.specs.Prelude.{◌≡◌, ◌≢◌, ◌⊎◌, ℕ, ◌+◌, ◌≤◌, List, [], ◌∷◌, ◌++◌, length, Option, Result, Ok, Err}
use Rattle.std.specs.Io.KnownBytes.{Appends}
use Rattle.bac_tag.specs.declared.refusals.Refusal.{Refusal}
use Rattle.bac_record.specs.Records.{Clean, TooMany, end_of}
use Rattle.bac_record.specs.Records as records
use Rattle.bac_record.specs.Outputs.{Outputs}
use Rattle.bac_record.specs.Runs.{Sums}
use Rattle.bac_record.specs.declared.faults.StreamFault.TheVariants.{Truncated, RecordTooLong, ReadFault, WriteFault, TooManyFrames, OutOfMemory}
use Rattle.bac_record.specs.declared.faults.RunFault.{RunFault}
use Rattle.bac_record.specs.declared.faults.RunFault.TheVariants.{Stream, Frame}
use Rattle.bac_record.specs.declared.summaries.Summary.{Summary}

-- The writer took the outputs of these records, and no more.
abbrev pub Writes : (ℕ → List ℕ → List ℕ → Type 0) → List (List ℕ) → Option (List ℕ) → Option (List ℕ) → Type 0
Writes line list taken taken' = (output : List ℕ) × Outputs line 1 list output × Appends taken taken' output

-- Only the records before the one of this number were dealt with, and only their outputs were written.
abbrev pub StopsAfter : (ℕ → List ℕ → List ℕ → Type 0) → List (List ℕ) → Option (List ℕ) → Option (List ℕ) → ℕ → Type 0
StopsAfter line list taken taken' at = (front more : List (List ℕ)) × (list ≡ front ++ more) × (at ≡ length front + 1) × Writes line front taken taken'

-- What a run answers for a file of these records and this rest, and what it writes.
-- Ok: the file ends clean, the Summary is that of all records, and all outputs are written.
-- Truncated, TooManyFrames: the file ends so, and the outputs of all its records are written.
-- ReadFault: the outputs of some records at its front are written (StopsAfter).
-- OutOfMemory: the same, and the record that it names is one of the file's, or the first.
-- WriteFault: that many octets of the outputs were written, which are not all.
-- Frame, a refused record in normalise: it is the first record that stops the run, and the outputs of those before it are
-- written.
abbrev pub RunsOver : (ℕ → List ℕ → List ℕ → Type 0) → (List ℕ → Refusal → Type 0) → (List ℕ → Type 0) → (List ℕ → Type 0)
    → List (List ℕ) → List ℕ → Option (List ℕ) → Option (List ℕ) → Result Summary RunFault → Type 0
RunsOver line stops is_canonical is_refused list rest taken taken' (Ok summary) =
    (end_of (length list) rest ≡ Clean) × Sums is_canonical is_refused list summary × Writes line list taken taken'
RunsOver line stops is_canonical is_refused list rest taken taken' (Err (Stream at Truncated)) =
    (end_of (length list) rest ≡ records.Truncated) × (at ≡ length list + 1) × Writes line list taken taken'
RunsOver line stops is_canonical is_refused list rest taken taken' (Err (Stream at RecordTooLong)) = ⊥
RunsOver line stops is_canonical is_refused list rest taken taken' (Err (Stream at TooManyFrames)) =
    (end_of (length list) rest ≡ TooMany) × (at ≡ length list + 1) × Writes line list taken taken'
RunsOver line stops is_canonical is_refused list rest taken taken' (Err (Stream at ReadFault)) = StopsAfter line list taken taken' at
-- The record is one of the file's, or the first.
RunsOver line stops is_canonical is_refused list rest taken taken' (Err (Stream at OutOfMemory)) =
    ((at ≡ 1) ⊎ (at ≤ length list)) × StopsAfter line list taken taken' at
-- The first so many octets of the outputs up to and with this record's were written, and not all.
RunsOver line stops is_canonical is_refused list rest taken taken' (Err (Stream at (WriteFault count))) =
    (front more : List (List ℕ)) × (octets output part unsent : List ℕ) × (list ≡ front ++ octets ∷ more) × (at ≡ length front + 1)
    × Outputs line 1 front output × line at octets (part ++ unsent) × (unsent ≢ [])
    × Appends taken taken' (output ++ part) × (count ≡ length (output ++ part))
-- The fault names the first record that stops the run, and those before it were dealt with.
RunsOver line stops is_canonical is_refused list rest taken taken' (Err (Frame at refusal)) =
    (front more : List (List ℕ)) × (octets : List ℕ) × (list ≡ front ++ octets ∷ more) × (at ≡ length front + 1)
    × stops octets refusal × Writes line front taken taken'
