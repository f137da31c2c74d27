-- How a table is held in memory: its pieces joined in the order of their numbers, for each number how many octets are
-- its own, and what would be counted anew at each call. These definitions are in the invariant and the view of a
-- reassembly.
use Rattle.std.specs.Prelude.{◌≡◌, ◌≤◌, ◌+◌, ◌==◌, ℕ, Bool, false, is_some, MatchBool, if◌then◌else◌, Option, Some, None, List, [], ◌∷◌, length, take, drop, map}
use Rattle.std.specs.List.{list_any}
use Rattle.std.specs.Option.{option_map}
use Rattle.bac_segment.specs.declared.holding.Span.{Span}
use Rattle.bac_segment.specs.declared.holding.Held.{Held}
use Rattle.bac_segment.specs.Tables.{Entry, Table, joined, is_last}

-- The span of an entry: how many octets its piece has, and whether others follow.
abbrev pub span_of : Entry → Span
span_of e = record { len = length e.piece; more = e.more }

-- The spans of a table: one for each number that is held, and none for each other one.
abbrev pub spans_of : Table → List (Option Span)
spans_of m = map (option_map span_of) m

-- How many octets a span has, which is 0 if there is no span.
abbrev pub span_len : Option Span → ℕ
span_len None = 0
span_len (Some s) = s.len

-- The table that octets and spans mean, where each span takes the next of the octets as its piece.
abbrev pub table_of : List ℕ → List (Option Span) → Table
table_of octets [] = []
table_of octets (None ∷ ss) = None ∷ table_of octets ss
table_of octets (Some s ∷ ss) = Some (record { piece = take s.len octets; more = s.more }) ∷ table_of (drop s.len octets) ss

-- How many numbers are held.
abbrev pub count_of : Table → ℕ
count_of [] = 0
count_of (None ∷ m) = count_of m
count_of (Some e ∷ m) = count_of m + 1

-- One more than the greatest number that is held, or 0 if there is none.
abbrev pub end_of : Table → ℕ
end_of [] = 0
end_of (None ∷ m) = if end_of m == 0 then 0 else end_of m + 1
end_of (Some e ∷ m) = end_of m + 1

-- Nothing is held above a last piece.
abbrev pub EndsAtLast : Table → Type 0
EndsAtLast [] = Unit {0}
EndsAtLast (None ∷ m) = EndsAtLast m
EndsAtLast (Some e ∷ m) = MatchBool e.more (EndsAtLast m) (list_any is_some m ≡ false)

-- The octets, the spans, the two counts and the flag are those of a table. The octets are the pieces of the table,
-- joined, at most 65,535. The spans say of each of the 256 numbers how many octets are its own and whether others
-- follow. count is how many numbers are held, and end is one more than the greatest of them, or 0 if there is none.
-- ended says whether a last piece is held. Nothing is held above a last piece.
pub record Holds (octets : List ℕ) (spans : List (Option Span)) (count end : ℕ) (ended : Bool) : Type 0 where
  pub table : Table
  pub octets_are : octets ≡ joined table
  pub spans_are : spans ≡ spans_of table
  pub places : length spans ≡ 256
  pub ends : EndsAtLast table
  pub small : length octets ≤ 65535
  pub count_is : count ≡ count_of table
  pub end_is : end ≡ end_of table
  pub ended_is : ended ≡ list_any is_last table

-- What is in memory is that of a table, by Holds.
abbrev pub IsHeld : Held → Type 0
IsHeld h = Holds h.octets.items h.spans.items h.count h.end h.ended

-- The table that is held in memory.
abbrev pub table_in : Held → Table
table_in h = table_of h.octets.items h.spans.items
