-- What is gathered of a message: places that refer to pieces, and the table that they stand for.
use Rattle.std.specs.Prelude.{◌≡◌, ◌≤◌, ℕ, Bool, true, false, is_none, Option, Some, None, Ok, List, ◌++◌, length, map}
use Rattle.std.specs.List.{position}
use Rattle.std.specs.Option.{option_map, unwrap_or}
use Rattle.bac_segment.specs.declared.faults.Taken.{Taken}
use Rattle.bac_segment.specs.Deliveries.{Delivery}
use Rattle.bac_segment.specs.Tables.{Entry, Table, joined, whole}
use Rattle.bac_segment.specs.Taking.{answer, with_next}
use Rattle.bac_message.specs.declared.gathering.Piece.{Piece}
use Rattle.bac_message.specs.declared.gathering.Gathering.{Gathering}

-- The entry that a piece stands for.
abbrev pub entry_of : Piece → Entry
entry_of p = record { piece = p.octets.now; more = p.more }

-- The table that places stand for.
abbrev pub table_of : List (Option Piece) → Table
table_of places = map (option_map entry_of) places

-- The table of a gathering.
abbrev pub table_in : Gathering → Table
table_in g = table_of g.places

-- A gathering has a place for each of the 256 numbers, and counts the octets of its pieces, at most 65,535 together.
pub record IsGathered (g : Gathering) : Type 0 where
  pub places : length g.places ≡ 256
  pub total : g.total ≡ length (joined (table_in g))
  pub small : g.total ≤ 65535

-- A segment is taken, by what was held before it, and the new table is held with it.
pub record IsTaken (old : Table) (s : Delivery) (new : Table) : Type 0 where
  pub taken : Taken
  pub answer_is : answer old s ≡ Ok taken
  pub new_is : new ≡ with_next old s

-- The first number that is not held, or how many numbers there are if all are held.
abbrev pub first_gap : Table → ℕ
first_gap m = unwrap_or (position is_none m) (length m)

-- If the flag is true, the message is whole, and the new octets are the old ones with its octets after them. If it is false, the
-- message is not whole.
abbrev pub AppendsWhole : Table → List ℕ → Bool → List ℕ → Type 0
AppendsWhole m old true new = (octets : List ℕ) × (whole m ≡ Some octets) × (new ≡ old ++ octets)
AppendsWhole m old false new = whole m ≡ None
