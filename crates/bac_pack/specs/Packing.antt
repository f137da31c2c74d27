-- What is whole in the octets that a run holds, and what it made of it.
use Rattle.std.specs.Prelude.{◌≡◌, ◌≢◌, ℕ, ◌+◌, ◌<◌, ◌≤◌, List, [], ◌∷◌, ◌++◌, length, take, Option, Some, None, ⊤}
use Rattle.std.specs.List.{AllByRecursion, AllZip}
use Rattle.bac_record.specs.Records.{record_of, joined}
use Rattle.bac_pack.specs.Lines.{LF, MOST_LINES, ended, IsUnbroken, IsLine}
use Rattle.bac_pack.specs.Runs.{Waits, NextLine}
use Rattle.bac_pack.specs.declared.packers.Packer.{Packer}
use Rattle.bac_pack.specs.declared.faults.PackFault.{PackFault}
use Rattle.bac_pack.specs.declared.faults.PackFault.TheVariants.{LineTooLong, NotHex, RecordTooLong, ReadFault, WriteFault, TooManyLines, OutOfMemory, Unreadable, Refused}

-- The first LF is after so many octets.
abbrev pub EndsAt : List ℕ → ℕ → Type 0
EndsAt octets end = (line more : List ℕ) × (octets ≡ line ++ LF ∷ more) × (end ≡ length line) × IsUnbroken line

-- The record of the line was added to the packer.
pub record Adds (packs : List ℕ → List ℕ → Type 0) (line : List ℕ) (old new : Packer) : Type 0 where
  pub octets : List ℕ
  pub packed : packs line octets
  pub output : new.output.items ≡ old.output.items ++ record_of octets
  pub lines : new.lines ≡ old.lines + 1
  pub sent : new.sent ≡ old.sent

-- The packer holds the same as before, since nothing was made of the next line.
pub record IsSame (old new : Packer) : Type 0 where
  pub output : new.output.items ≡ old.output.items
  pub lines : new.lines ≡ old.lines
  pub sent : new.sent ≡ old.sent

-- The first so many of the octets are these lines, and their records were added.
pub record PacksFront (packs : List ℕ → List ℕ → Type 0) (longest : ℕ) (octets : List ℕ) (count : ℕ) (old new : Packer) : Type 0 where
  pub lines : List (List ℕ)
  pub records : List (List ℕ)
  pub within : count ≤ length octets
  pub whole : take count octets ≡ ended lines
  pub each : AllByRecursion (IsLine longest) lines
  pub packed : AllZip packs lines records
  pub few : new.lines ≤ MOST_LINES
  pub output : new.output.items ≡ old.output.items ++ joined records
  pub counted : new.lines ≡ old.lines + length lines
  pub sent : new.sent ≡ old.sent

-- The fault is one that the octets after so many lines show.
abbrev pub IsFound : (List ℕ → PackFault → Type 0) → ℕ → ℕ → List ℕ → PackFault → Type 0
IsFound refuses longest count rest (LineTooLong number) = (number ≡ count + 1) × (count < MOST_LINES) × IsUnbroken rest × (longest < length rest)
IsFound refuses longest count rest (NotHex number) = (number ≡ count + 1) × NextLine longest count rest ⊥ (λ line. refuses line (NotHex number))
IsFound refuses longest count rest (RecordTooLong number) = (number ≡ count + 1) × NextLine longest count rest ⊥ (λ line. refuses line (RecordTooLong number))
IsFound refuses longest count rest (Unreadable number column) =
    (number ≡ count + 1) × NextLine longest count rest ⊥ (λ line. refuses line (Unreadable number column))
IsFound refuses longest count rest (Refused number) = (number ≡ count + 1) × NextLine longest count rest ⊥ (λ line. refuses line (Refused number))
IsFound refuses longest count rest (OutOfMemory number) = (number ≡ count + 1) × NextLine longest count rest ⊥ (λ line. ⊤)
IsFound refuses longest count rest TooManyLines = (count ≡ MOST_LINES) × (rest ≢ [])
IsFound refuses longest count rest (ReadFault number) = ⊥
IsFound refuses longest count rest (WriteFault written) = ⊥

-- Why no further line is packed after so many lines: a fault that the octets show, or there is less than a line.
abbrev pub Halts : (List ℕ → PackFault → Type 0) → ℕ → ℕ → List ℕ → Option PackFault → Type 0
Halts refuses longest count rest None = Waits longest count rest
Halts refuses longest count rest (Some fault) = IsFound refuses longest count rest fault
