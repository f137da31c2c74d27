-- What a run over a text leaves in its reader and its writer. A run packs lines of any form, and the form says what a line
-- means and how long it may be: packs says which octets a line means, refuses says why it means none, and longest is the most
-- octets of a line. They come first in these definitions, and in those of Files.antt.
use Rattle.std.specs.Prelude.{◌≡◌, ◌≢◌, ◌⊎◌, ℕ, ◌+◌, ◌<◌, ◌≤◌, List, [], ◌∷◌, ◌++◌, length, Option, ⊤}
use Rattle.std.specs.List.{AllByRecursion, AllZip}
use Rattle.std.specs.Io.KnownBytes.{Consumes, Appends, IsAtEnd}
use Rattle.bac_record.specs.Devices.{HasRisen}
use Rattle.bac_record.specs.Records.{record_of, joined}
use Rattle.bac_pack.specs.Lines.{LF, LONGEST_LINE, MOST_LINES, lines_of, ended, IsUnbroken, IsShort, IsLine, Packs, PacksNone}
use Rattle.bac_pack.specs.declared.faults.PackFault.{PackFault}
use Rattle.bac_pack.specs.declared.faults.PackFault.TheVariants.{LineTooLong, NotHex, RecordTooLong, ReadFault, WriteFault, TooManyLines, OutOfMemory, Unreadable, Refused}

-- A run ended well. The reader gave a text and is at its end, no line is too long, there are at most 1,000,000, the writer took
-- a record for each, and their number is the answer.
pub record LinesThrough (packs : List ℕ → List ℕ → Type 0) (longest : ℕ) (left left' taken taken' : Option (List ℕ)) (count : ℕ) : Type 0 where
  pub text : List ℕ
  pub records : List (List ℕ)
  pub read : Consumes left left' text
  pub is_end : IsAtEnd left'
  pub short : AllByRecursion (IsShort longest) (lines_of text)
  pub few : length (lines_of text) ≤ MOST_LINES
  pub packed : AllZip packs (lines_of text) records
  pub wrote : Appends taken taken' (joined records)
  pub counted : count ≡ length (lines_of text)

-- After so many lines the rest is less than a line, and more of it may come.
abbrev pub Waits : ℕ → ℕ → List ℕ → Type 0
Waits longest count rest = (count ≤ MOST_LINES) × (count ≡ MOST_LINES → rest ≡ []) × IsLine longest rest

-- The line is whole at the front of the rest: its LF follows; or it is a last one that is not empty, and the reader is at its
-- end.
abbrev pub IsWhole : List ℕ → List ℕ → Type 0 → Type 0
IsWhole line rest is_end = ((more : List ℕ) × (rest ≡ line ++ LF ∷ more)) ⊎ ((rest ≡ line) × (line ≢ []) × is_end)

-- After so many lines one more line is whole at the front of the rest and may still be packed, and P holds of it.
abbrev pub NextLine : ℕ → ℕ → List ℕ → Type 0 → (List ℕ → Type 0) → Type 0
NextLine longest count rest is_end P = (count < MOST_LINES) × (line : List ℕ) × IsLine longest line × IsWhole line rest is_end × P line

-- When each fault comes, by the number of lines packed and the rest that was read after them.
-- LineTooLong: the rest is longer than a line may be, without an LF.
-- NotHex, RecordTooLong, Unreadable, Refused: one more line is whole, and the form refuses it so.
-- ReadFault: the rest is less than a line so far.
-- WriteFault: IsWritten says when.
-- TooManyLines: an octet comes after 1,000,000 lines.
-- OutOfMemory: nothing was read yet, or one more line is whole.
abbrev pub IsCause : (List ℕ → PackFault → Type 0) → ℕ → ℕ → List ℕ → Option (List ℕ) → PackFault → Type 0
IsCause refuses longest count rest left' (LineTooLong number) =
    (number ≡ count + 1) × (count < MOST_LINES) × IsUnbroken rest × (longest < length rest)
IsCause refuses longest count rest left' (NotHex number) =
    (number ≡ count + 1) × NextLine longest count rest (IsAtEnd left') (λ line. refuses line (NotHex number))
IsCause refuses longest count rest left' (RecordTooLong number) =
    (number ≡ count + 1) × NextLine longest count rest (IsAtEnd left') (λ line. refuses line (RecordTooLong number))
IsCause refuses longest count rest left' (Unreadable number column) =
    (number ≡ count + 1) × NextLine longest count rest (IsAtEnd left') (λ line. refuses line (Unreadable number column))
IsCause refuses longest count rest left' (Refused number) =
    (number ≡ count + 1) × NextLine longest count rest (IsAtEnd left') (λ line. refuses line (Refused number))
IsCause refuses longest count rest left' (ReadFault number) = (number ≡ count + 1) × Waits longest count rest
IsCause refuses longest count rest left' (WriteFault written) = ⊤
IsCause refuses longest count rest left' TooManyLines = (count ≡ MOST_LINES) × (rest ≢ [])
-- The memory was for what a run begins with, or for what it makes of a line.
IsCause refuses longest count rest left' (OutOfMemory number) =
    (number ≡ count + 1) × (((count ≡ 0) × (rest ≡ [])) ⊎ NextLine longest count rest (IsAtEnd left') (λ line. ⊤))

-- The record of a last line that no LF ends, or nothing.
abbrev pub IsLast : (List ℕ → List ℕ → Type 0) → ℕ → ℕ → List ℕ → Option (List ℕ) → List ℕ → Type 0
IsLast packs longest count rest left' last = (last ≡ [])
    ⊎ ((count < MOST_LINES) × (rest ≢ []) × IsLine longest rest × IsAtEnd left' × (octets : List ℕ) × packs rest octets × (last ≡ record_of octets))

-- What the writer took before a fault: the records of these lines. After a write fault it took a part of them and of the record
-- of a last line, which is not all, and the number in the fault is that of the octets taken.
abbrev pub IsWritten : (List ℕ → List ℕ → Type 0) → ℕ → List (List ℕ) → List ℕ → Option (List ℕ) → List ℕ → PackFault → Type 0
IsWritten packs longest records rest left' written (WriteFault count) = (count ≡ length written)
    × (unsent last : List ℕ) × IsLast packs longest (length records) rest left' last × (written ++ unsent ≡ joined records ++ last) × (unsent ≢ [])
IsWritten packs longest records rest left' written fault = written ≡ joined records

-- A run stopped: these lines were packed, this rest was read after them, and their records were written, or after a write fault
-- a part of them.
pub record LinesStopped (packs : List ℕ → List ℕ → Type 0) (refuses : List ℕ → PackFault → Type 0) (longest : ℕ)
    (left left' taken taken' : Option (List ℕ)) (fault : PackFault) : Type 0 where
  pub lines : List (List ℕ)
  pub records : List (List ℕ)
  pub rest : List ℕ
  pub written : List ℕ
  pub each : AllByRecursion (IsLine longest) lines
  pub few : length lines ≤ MOST_LINES
  pub packed : AllZip packs lines records
  pub read : Consumes left left' (ended lines ++ rest)
  pub wrote : Appends taken taken' written
  pub cause : IsCause refuses longest (length lines) rest left' fault
  pub records_out : IsWritten packs longest records rest left' written fault

-- A device's failures rose if the fault is its own, ReadFault of the reader and WriteFault of the writer, and else they stay.
abbrev pub RunCounts : ℕ → ℕ → ℕ → ℕ → PackFault → Type 0
RunCounts read read' write write' (ReadFault number) = HasRisen read read' × (write' ≡ write)
RunCounts read read' write write' (WriteFault count) = (read' ≡ read) × HasRisen write write'
RunCounts read read' write write' _ = (read' ≡ read) × (write' ≡ write)

-- A run over lines of hexadecimal digits ended well. This is LinesThrough, by Packs and LONGEST_LINE.
abbrev pub PacksThrough : Option (List ℕ) → Option (List ℕ) → Option (List ℕ) → Option (List ℕ) → ℕ → Type 0
PacksThrough = LinesThrough Packs LONGEST_LINE

-- A run over lines of hexadecimal digits stopped. This is LinesStopped, by Packs, PacksNone and LONGEST_LINE.
abbrev pub Stopped : Option (List ℕ) → Option (List ℕ) → Option (List ℕ) → Option (List ℕ) → PackFault → Type 0
Stopped = LinesStopped Packs PacksNone LONGEST_LINE
