-- Lists of calls of a reassembly: what it goes through, call by call.
use Rattle.std.specs.Prelude.{◌≡◌, ◌≢◌, ◌↔◌, true, if◌then◌else◌, Err, List, [], ◌∷◌}
use Rattle.bac_segment.specs.declared.keys.Key.{Key}
use Rattle.bac_segment.specs.declared.faults.TakeFault.TheVariants.{OtherKey, OutOfMemory, DeskFull}
use Rattle.bac_segment.specs.Deliveries.{Delivery, key_of}
use Rattle.bac_segment.specs.Tables.{Table}
use Rattle.bac_segment.specs.Taking.{Answer, counts, answer, IsKept}
use Rattle.bac_segment.specs.Reassembled.{Reassembled, Takes}

-- These segments, with these answers, lead from one reassembly to another, each by Takes.
abbrev pub Delivers : Reassembled → List (Delivery × Answer) → Reassembled → Type 0
Delivers old [] new = new ≡ old
Delivers old (call ∷ calls) new = (mid : Reassembled) × Takes old call.0 call.1 mid × Delivers mid calls new

-- The segments whose answers count.
abbrev pub counted : List (Delivery × Answer) → List Delivery
counted [] = []
counted (call ∷ calls) = if counts call.1 then call.0 ∷ counted calls else counted calls

-- The answer is that of a reassembly of this key, which holds this table, to the segment. It is OtherKey exactly
-- where the segment is of another key. If it counts, it is what answer gives. It is OutOfMemory only if the segment
-- would be kept. It is never DeskFull.
pub record IsAnswer (key : Key) (m : Table) (s : Delivery) (a : Answer) : Type 0 where
  pub other_key : (a ≡ Err OtherKey) ↔ (key_of key.peer s ≢ key)
  pub by_table : counts a ≡ true → a ≡ answer m s
  pub memory : a ≡ Err OutOfMemory → IsKept (answer m s)
  pub not_full : a ≢ Err DeskFull
