-- What a run over a file of known octets answers and writes. What packs, refuses and longest say is in Runs.antt.
use Rattle.std.specs.Prelude.{◌≡◌, ◌≢◌, ◌⊎◌, ℕ, ◌+◌, ◌<◌, ◌≤◌, List, [], ◌∷◌, ◌++◌, length, Option, Result, Ok, Err}
use Rattle.std.specs.List.{AllByRecursion, AllZip}
use Rattle.std.specs.Io.KnownBytes.{Appends}
use Rattle.bac_record.specs.Records.{joined}
use Rattle.bac_pack.specs.Lines.{LONGEST_LINE, MOST_LINES, IsShort, Packs, PacksNone}
use Rattle.bac_pack.specs.declared.faults.PackFault.{PackFault}
use Rattle.bac_pack.specs.declared.faults.PackFault.TheVariants.{LineTooLong, NotHex, RecordTooLong, ReadFault, WriteFault, TooManyLines, OutOfMemory, Unreadable, Refused}

-- No line is too long, each packs to a record, and the writer took these records and no more.
abbrev pub Writes : (List ℕ → List ℕ → Type 0) → ℕ → List (List ℕ) → Option (List ℕ) → Option (List ℕ) → Type 0
Writes packs longest lines taken taken' =
    AllByRecursion (IsShort longest) lines × (records : List (List ℕ)) × AllZip packs lines records × Appends taken taken' (joined records)

-- The lines before the one of this number were packed, and their records and no more were written.
abbrev pub StopsBefore : (List ℕ → List ℕ → Type 0) → ℕ → List (List ℕ) → Option (List ℕ) → Option (List ℕ) → ℕ → Type 0
StopsBefore packs longest lines taken taken' number =
    (front more : List (List ℕ)) × (lines ≡ front ++ more) × (number ≡ length front + 1) × (length front ≤ MOST_LINES) × Writes packs longest front taken taken'

-- The line of this number is the first at fault: P holds of it, and those before it were packed and written.
abbrev pub FaultAt : (List ℕ → List ℕ → Type 0) → ℕ → List (List ℕ) → Option (List ℕ) → Option (List ℕ) → ℕ → (List ℕ → Type 0) → Type 0
FaultAt packs longest lines taken taken' number P =
    (front more : List (List ℕ)) × (line : List ℕ) × (lines ≡ front ++ line ∷ more) × (number ≡ length front + 1) × (length front < MOST_LINES)
    × P line × Writes packs longest front taken taken'

-- What a run answers for a file of these lines, and what it writes.
-- Ok: the answer is the number of lines, and the records of all of them are written.
-- LineTooLong, NotHex, RecordTooLong, Unreadable, Refused: the line is the first at fault (FaultAt).
-- TooManyLines: the records of the first 1,000,000 lines are written, and there are more lines.
-- ReadFault: the records of some lines at the front of the file are written (StopsBefore).
-- OutOfMemory: the same, and the line that it names is one of the file's, or the first.
-- WriteFault: that many octets of the records were written, which are not all.
abbrev pub LinesOver : (List ℕ → List ℕ → Type 0) → (List ℕ → PackFault → Type 0) → ℕ
    → List (List ℕ) → Option (List ℕ) → Option (List ℕ) → Result ℕ PackFault → Type 0
LinesOver packs refuses longest lines taken taken' (Ok count) = (count ≡ length lines) × (length lines ≤ MOST_LINES) × Writes packs longest lines taken taken'
LinesOver packs refuses longest lines taken taken' (Err (LineTooLong number)) = FaultAt packs longest lines taken taken' number (λ line. longest < length line)
LinesOver packs refuses longest lines taken taken' (Err (NotHex number)) =
    FaultAt packs longest lines taken taken' number (λ line. IsShort longest line × refuses line (NotHex number))
LinesOver packs refuses longest lines taken taken' (Err (RecordTooLong number)) =
    FaultAt packs longest lines taken taken' number (λ line. IsShort longest line × refuses line (RecordTooLong number))
LinesOver packs refuses longest lines taken taken' (Err (Unreadable number column)) =
    FaultAt packs longest lines taken taken' number (λ line. IsShort longest line × refuses line (Unreadable number column))
LinesOver packs refuses longest lines taken taken' (Err (Refused number)) =
    FaultAt packs longest lines taken taken' number (λ line. IsShort longest line × refuses line (Refused number))
LinesOver packs refuses longest lines taken taken' (Err TooManyLines) =
    (front more : List (List ℕ)) × (lines ≡ front ++ more) × (length front ≡ MOST_LINES) × (more ≢ []) × Writes packs longest front taken taken'
LinesOver packs refuses longest lines taken taken' (Err (ReadFault number)) = StopsBefore packs longest lines taken taken' number
-- The line is one of the file's, or the first.
LinesOver packs refuses longest lines taken taken' (Err (OutOfMemory number)) =
    ((number ≡ 1) ⊎ (number ≤ length lines)) × StopsBefore packs longest lines taken taken' number
-- The first so many octets of the records of lines at the front were written, and not all.
LinesOver packs refuses longest lines taken taken' (Err (WriteFault count)) =
    (front more records : List (List ℕ)) × (written unsent : List ℕ) × (lines ≡ front ++ more) × (length front ≤ MOST_LINES)
    × AllByRecursion (IsShort longest) front × AllZip packs front records × (written ++ unsent ≡ joined records) × (unsent ≢ []) × Appends taken taken' written × (count ≡ length written)

-- What a run answers for a file of these lines of hexadecimal digits, and what it writes. This is LinesOver, by Packs,
-- PacksNone and LONGEST_LINE.
abbrev pub RunsOver : List (List ℕ) → Option (List ℕ) → Option (List ℕ) → Result ℕ PackFault → Type 0
RunsOver = LinesOver Packs PacksNone LONGEST_LINE
