-- What the form of a line makes of it.
use Rattle.std.specs.Prelude.{◌≡◌, ℕ, List, ◌++◌}
use Rattle.bac_record.specs.Records.{record_of}
use Rattle.bac_pack.specs.declared.faults.PackFault.{PackFault}
use Rattle.bac_pack.specs.declared.faults.PackFault.TheVariants.{LineTooLong, NotHex, RecordTooLong, ReadFault, WriteFault, TooManyLines, OutOfMemory, Unreadable, Refused}

-- A record was appended, of octets that the line packs to.
pub record Pushes (packs : List ℕ → Type 0) (old new : List ℕ) : Type 0 where
  pub octets : List ℕ
  pub packed : packs octets
  pub appended : new ≡ old ++ record_of octets

-- No record was made of the line of this number, for a fault with this number. The fault is one for which the form refuses the
-- line, NotHex, RecordTooLong, Unreadable or Refused, or it is OutOfMemory.
abbrev pub IsRefused : (PackFault → Type 0) → ℕ → PackFault → Type 0
IsRefused refuses number (NotHex at) = (at ≡ number) × refuses (NotHex at)
IsRefused refuses number (RecordTooLong at) = (at ≡ number) × refuses (RecordTooLong at)
IsRefused refuses number (Unreadable at column) = (at ≡ number) × refuses (Unreadable at column)
IsRefused refuses number (Refused at) = (at ≡ number) × refuses (Refused at)
IsRefused refuses number (OutOfMemory at) = at ≡ number
IsRefused refuses number (LineTooLong at) = ⊥
IsRefused refuses number (ReadFault at) = ⊥
IsRefused refuses number (WriteFault written) = ⊥
IsRefused refuses number TooManyLines = ⊥
