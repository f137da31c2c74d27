-- What reading and writing one record does. Here old and new are what the reader has left, or what the writer has taken, before
-- and after.
use Rattle.std.specs.Prelude.{◌≡◌, ℕ, ◌+◌, ◌*◌, ◌/◌, ◌%◌, ◌<◌, ◌≤◌, List, [], ◌∷◌, length, take, ⊤, Option, None, Some}
use Rattle.std.specs.Io.KnownBytes.{Consumes, Appends, IsAtEnd, Keeps}
use Rattle.bac_record.specs.Devices.{HasRisen}
use Rattle.bac_record.specs.Records.{record_of, IsRecord, BeginsRecord, LONGEST, end_of}
use Rattle.bac_record.specs.Records as records
use Rattle.bac_record.specs.declared.faults.StreamFault.{StreamFault}
use Rattle.bac_record.specs.declared.faults.StreamFault.TheVariants.{Truncated, RecordTooLong, ReadFault, WriteFault, TooManyFrames, OutOfMemory}

-- What was read is one record and no octet past it, or nothing was left. The last argument is the octets of the record, or
-- None.
abbrev pub GivesRecord : Option (List ℕ) → Option (List ℕ) → Option (List ℕ) → Type 0
-- A record was read, and no octet past it.
GivesRecord old new (Some octets) = IsRecord octets × Consumes old new (record_of octets)
-- Nothing was left.
GivesRecord old new None = IsAtEnd new × Consumes old new []

-- How much of a record was read before a fault.
abbrev pub StopsReading : Option (List ℕ) → Option (List ℕ) → StreamFault → Type 0
-- The reader ended inside a record.
StopsReading old new Truncated = (front : List ℕ) × Consumes old new front × IsAtEnd new × (0 < length front) × (BeginsRecord front → ⊥)
-- Less than a record was read.
StopsReading old new ReadFault = (front : List ℕ) × Consumes old new front × (BeginsRecord front → ⊥)
-- Only the length octets were read.
StopsReading old new OutOfMemory = (high low : ℕ) × Consumes old new (high ∷ low ∷ []) × (256 * high + low ≤ LONGEST)
StopsReading old new RecordTooLong = ⊥
StopsReading old new (WriteFault count) = ⊥
StopsReading old new TooManyFrames = ⊥

-- The answer is the first record of a file of these records and this rest, or None if the file is empty.
abbrev pub IsFirst : List (List ℕ) → List ℕ → Option (List ℕ) → Type 0
IsFirst list rest (Some octets) = (more : List (List ℕ)) × (list ≡ octets ∷ more)
IsFirst list rest None = (list ≡ []) × (rest ≡ [])

-- Why a file of these records and this rest gives no record. Truncated comes only if the file is a rest of less than a record.
-- ReadFault and OutOfMemory may come for any file, if the device failed or memory was refused.
abbrev pub IsFirstFault : List (List ℕ) → List ℕ → StreamFault → Type 0
IsFirstFault list rest Truncated = (list ≡ []) × (end_of 0 rest ≡ records.Truncated)
IsFirstFault list rest ReadFault = ⊤
IsFirstFault list rest OutOfMemory = ⊤
IsFirstFault list rest RecordTooLong = ⊥
IsFirstFault list rest (WriteFault count) = ⊥
IsFirstFault list rest TooManyFrames = ⊥

-- The count of failures rose if the fault is ReadFault, and else it stays.
abbrev pub ReadFaultCounts : ℕ → ℕ → StreamFault → Type 0
ReadFaultCounts old new ReadFault = HasRisen old new
ReadFaultCounts old new _ = new ≡ old

-- The writer took the first so many of the octets, which are not all.
abbrev pub TakesFront : Option (List ℕ) → Option (List ℕ) → List ℕ → ℕ → Type 0
TakesFront old new octets count = (count < length octets) × Appends old new (take count octets)

-- What was read is the two length octets of a record, or nothing was left. The last argument is the length, or None.
abbrev pub GivesLength : Option (List ℕ) → Option (List ℕ) → Option ℕ → Type 0
GivesLength old new (Some count) = (count ≤ LONGEST) × Consumes old new (count / 256 ∷ count % 256 ∷ [])
GivesLength old new None = IsAtEnd new × Consumes old new []

-- Fewer than so many octets were read before a fault. The reader is at its end if the fault is Truncated. Nothing was read if
-- it is OutOfMemory.
abbrev pub StopsWithin : Option (List ℕ) → Option (List ℕ) → ℕ → StreamFault → Type 0
StopsWithin old new count Truncated = (front : List ℕ) × Consumes old new front × IsAtEnd new × (length front < count)
StopsWithin old new count ReadFault = (front : List ℕ) × Consumes old new front × (length front < count)
StopsWithin old new count OutOfMemory = Keeps old new
StopsWithin old new count RecordTooLong = ⊥
StopsWithin old new count (WriteFault sent) = ⊥
StopsWithin old new count TooManyFrames = ⊥

-- A write fault reports how many of the octets of a record went out, which are not all. No other fault comes.
abbrev pub StopsWriting : Option (List ℕ) → Option (List ℕ) → List ℕ → StreamFault → Type 0
StopsWriting old new octets (WriteFault count) = TakesFront old new octets count
StopsWriting old new octets _ = ⊥
