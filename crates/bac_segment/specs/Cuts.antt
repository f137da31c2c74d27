-- Segments of one cut.
use Rattle.std.specs.Prelude.{◌≡◌, ◌⊎◌, false, Ok, Err, List, [], ◌∷◌}
use Rattle.std.specs.List.{AllByRecursion}
use Rattle.bac_segment.specs.declared.keys.Key.{Key}
use Rattle.bac_segment.specs.Deliveries.{Delivery, key_of}
use Rattle.bac_segment.specs.Taking.{Answer, counts}

-- The segment is one of the list.
abbrev pub IsOneOf : List Delivery → Delivery → Type 0
IsOneOf [] s = ⊥
IsOneOf (x ∷ xs) s = (s ≡ x) ⊎ IsOneOf xs s

-- Each segment of the second list is one of the first.
abbrev pub AreAmong : List Delivery → List Delivery → Type 0
AreAmong these l = AllByRecursion (λ s. IsOneOf these s) l

-- Each segment in the calls that is of the key is one of these segments.
abbrev pub AreOf : Key → List Delivery → List (Delivery × Answer) → Type 0
AreOf key segments calls = AllByRecursion (λ c. key_of key.peer c.0 ≡ key → IsOneOf segments c.0) calls

-- The answer is Kept, Repeat or Complete, or one that does not count. Those that do not count are OtherKey, DeskFull
-- and OutOfMemory, in which what is held has no part.
abbrev pub IsGood : Answer → Type 0
IsGood (Ok taken) = Unit {0}
IsGood (Err fault) = counts (Err fault) ≡ false
