-- A fault within the octets is one of the record.
use Rattle.std.proofs.Common.{ℕ, ◌/◌, ◌%◌, List, ◌∷◌, arith, Option, Some}
use Rattle.std.proofs.KnownBytes.{Consumes-trans, Consumes-kept}
use Rattle.bac_record.specs.Transfers.{StopsWithin, StopsReading, GivesLength}
use Rattle.bac_record.specs.declared.faults.StreamFault.{StreamFault}
use Rattle.bac_record.specs.declared.faults.StreamFault.TheVariants.{Truncated, RecordTooLong, ReadFault, WriteFault, TooManyFrames, OutOfMemory}
use Rattle.bac_record.proofs.Partial.{part_begins_none}

pub stops_after_length : (old mid new : Option (List ℕ)) (count : ℕ) (fault : StreamFault) → GivesLength old mid (Some count) → StopsWithin mid new count fault → StopsReading old new fault
stops_after_length old mid new count Truncated begun stops = (
  count / 256 ∷ count % 256 ∷ stops.0,
  Consumes-trans old mid new _ _ begun.1 stops.1,
  stops.2,
  omega arith,
  part_begins_none count stops.0 stops.3,
)
stops_after_length old mid new count ReadFault begun stops = (
  count / 256 ∷ count % 256 ∷ stops.0,
  Consumes-trans old mid new _ _ begun.1 stops.1,
  part_begins_none count stops.0 stops.2,
)
stops_after_length old mid new count OutOfMemory begun stops =
    (count / 256, count % 256, Consumes-kept old mid new _ begun.1 stops, omega arith)
stops_after_length old mid new count RecordTooLong begun stops = absurd stops
stops_after_length old mid new count (WriteFault sent) begun stops = absurd stops
stops_after_length old mid new count TooManyFrames begun stops = absurd stops
