-- Files of records. A record is two octets of length, and then that many octets. The format is this project's own.
use Rattle.std.specs.Prelude.{◌≡◌, ℕ, ◌/◌, ◌%◌, ◌<◌, ◌≤◌, ◌++◌, List, [], ◌∷◌, length, flat_map, nat_eq, if◌then◌else◌}
use Rattle.std.specs.List.{AllByRecursion}

-- The most octets of a record, 65,535, without its length octets. It is the most that two octets of length can say.
abbrev pub LONGEST : ℕ
LONGEST = 65535

-- The most records of a file, 1,000,000.
abbrev pub MOST : ℕ
MOST = 1000000

-- The most octets that a run holds, 65,537: the longest record with its two length octets.
abbrev pub HELD : ℕ
HELD = 65537

-- The octets as a record: two octets of their length, the high one first, and then the octets.
abbrev pub record_of : List ℕ → List ℕ
record_of octets = length octets / 256 ∷ length octets % 256 ∷ octets

-- The octets are at most 65,535, as many as two octets of length can say.
abbrev pub IsRecord : List ℕ → Type 0
IsRecord octets = length octets ≤ LONGEST

-- These records, one after another, each with its length octets.
abbrev pub joined : List (List ℕ) → List ℕ
joined records = flat_map record_of records

-- A whole record is at the front of the octets.
abbrev pub BeginsRecord : List ℕ → Type 0
BeginsRecord octets = (front more : List ℕ) × IsRecord front × (octets ≡ record_of front ++ more)

-- The octets are the records of the list, at most so many, and then a rest that begins with no record that could be added. A
-- record could be added if the list has fewer.
pub record RecordsUpTo (most : ℕ) (list : List (List ℕ)) (rest octets : List ℕ) : Type 0 where
  pub whole : octets ≡ joined list ++ rest
  pub each : AllByRecursion IsRecord list
  pub few : length list ≤ most
  pub partial : length list < most → BeginsRecord rest → ⊥

-- The file is these records, 1,000,000 at most, and this rest, by RecordsUpTo. Each list of octets has exactly one such list
-- and rest.
abbrev pub Records : List (List ℕ) → List ℕ → List ℕ → Type 0
Records list rest file = RecordsUpTo MOST list rest file

-- How a file ends: clean, with too many records, or truncated.
pub data End : Type 0 where
  Clean : End
  TooMany : End
  Truncated : End

-- The end of a file of so many records and this rest. It is clean if the rest is empty; else with too many records if there are
-- 1,000,000; else truncated.
abbrev pub end_of : ℕ → List ℕ → End
end_of count [] = Clean
end_of count (octet ∷ octets) = if nat_eq count MOST then TooMany else Truncated
