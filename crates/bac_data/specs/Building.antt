-- A value that is being built or read, and the groups that are open.
use Rattle.std.specs.Prelude.{◌≡◌, ◌↔◌, ℕ, Bool, IsTrue, ◌<◌, ◌≤◌, Option, None, Some, List, [], ◌∷◌, length, reverse}
use Rattle.std.specs.List.{AllByRecursion}
use Rattle.bac_tag.specs.Spelling.{IsLeast}
use Rattle.bac_data.specs.Events.{Event, Opens, SpellsEvents}

-- The events leave count groups open. They are possible if no group is open before them, and no more groups nest than the
-- limit.
abbrev pub HasOpen : ℕ → List Event → ℕ → Type 0
HasOpen limit es count = (s : List ℕ) × Opens limit [] es s × (length s ≡ count)

-- The events leave a group of that number as the innermost open one. They are possible if no group is open before them, and
-- no more groups nest than the limit.
abbrev pub IsInnermost : ℕ → List Event → ℕ → Type 0
IsInnermost limit es number = (outer : List ℕ) × Opens limit [] es (number ∷ outer)

-- After the events, the groups with these numbers are open, the outermost first. At most 32 groups nest, and each number is
-- at most 254.
pub record AreOpen (es : List Event) (groups : List ℕ) : Type 0 where
  pub opened : Opens 32 [] es (reverse groups)
  pub numbers : AllByRecursion (λ number. number ≤ 254) groups

-- What a reader keeps of the events so far: nothing if there is no mark, and else their canonical octets. There is no mark
-- as long as all octets are the canonical ones.
abbrev pub Keeps : Option ℕ → List Event → List ℕ → Type 0
Keeps None es kept = kept ≡ []
Keeps (Some place) es kept = IsLeast (SpellsEvents es) kept

-- The canonical octets of the events so far. If there is no mark, these are the octets in front, and else those that are
-- kept.
abbrev pub held_octets : Option ℕ → List ℕ → List ℕ → List ℕ
held_octets None front kept = front
held_octets (Some place) front kept = kept

-- The number of the tag that ends the innermost open group, or the value if no group is open. The tags of the value have
-- the number that is the first argument.
abbrev pub closing_number : ℕ → List ℕ → ℕ
closing_number number [] = number
closing_number number (k ∷ s) = k

-- After the events, room is true exactly where fewer groups than the limit are open, and closing is the number that ends
-- the innermost group, or the value. So room says whether a group may begin.
abbrev pub IsPlace : ℕ → ℕ → List Event → Bool → ℕ → Type 0
IsPlace limit number es room closing = (s : List ℕ) × Opens limit [] es s × (IsTrue room ↔ (length s < limit)) × (closing ≡ closing_number number s)

-- The event may follow the events. They are possible together if no group is open before them, and no more groups nest than
-- the limit.
abbrev pub MayFollow : ℕ → List Event → Event → Type 0
MayFollow limit es event = (s t : List ℕ) × Opens limit [] es s × Opens limit s (event ∷ []) t
