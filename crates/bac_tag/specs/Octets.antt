-- Lists of octets, and the order by which canonical spellings are least.
use Rattle.std.specs.Prelude.{◌≡◌, ◌≢◌, ℕ, ◌+◌, ◌<◌, ◌≤◌, ◌⊎◌, List, length, take, slice_index, slice_get, ◌++◌, Option, None, Some}
use Rattle.std.specs.List.{AllByRecursion}

-- Each number of the list is that of an octet: it is below 256.
abbrev pub IsOctets : List ℕ → Type 0
IsOctets octets = AllByRecursion (λ octet. octet < 256) octets

-- The list b is shorter than c, or as long and at no place greater. This is the order by which canonical spellings are least.
abbrev pub NoGreater : List ℕ → List ℕ → Type 0
NoGreater b c = (length b < length c)
    ⊎ ((length b ≡ length c) × ((k : ℕ) → k < length b → slice_index b k ≤ slice_index c k))

-- Up to the place the two lists are the same, and at the place they differ or one of them ends.
pub record FirstDifference (b c : List ℕ) (place : ℕ) : Type 0 where
  pub before : take place b ≡ take place c
  pub differ : slice_get b place ≢ slice_get c place

-- The mark is None if the lists are equal, and else the first place where they differ, which is a place of both.
abbrev pub IsMark : List ℕ → List ℕ → Option ℕ → Type 0
IsMark b c None = b ≡ c
IsMark b c (Some place) = (place < length b) × (place < length c) × FirstDifference b c place

-- The mark of two parts joined, by their marks and the number of octets of the first.
abbrev pub joined_mark : Option ℕ → ℕ → Option ℕ → Option ℕ
joined_mark (Some place) count second = Some place
joined_mark None count (Some place) = Some (count + place)
joined_mark None count None = None

-- The new octets are the old ones with some more after them, or none.
abbrev pub Extends : List ℕ → List ℕ → Type 0
Extends old new = (more : List ℕ) × (new ≡ old ++ more)
