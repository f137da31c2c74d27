-- What is told of octets that are checked, of which no value is made.
use Rattle.std.specs.Prelude.{ℕ, Option, List, take}
use Rattle.bac_tag.specs.Spelling.{HasMark, Takes}

-- The pair found is a count and a mark. That many octets at the front of the input spell some value, and have the mark against
-- its canonical ones.
pub record TakesMarked {X : Type 0} (Spells : X → List ℕ → Type 0) (input : List ℕ) (found : ℕ × Option ℕ) : Type 0 where
  pub value : X
  pub takes : Takes Spells input (value, found.0)
  pub marked : HasMark (Spells value) (take found.0 input) found.1
