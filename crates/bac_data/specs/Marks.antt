-- Where the octets of an open value differ from the canonical ones, as far as it was read.
use Rattle.std.specs.Prelude.{ℕ, Option, List, ◌∷◌, take}
use Rattle.bac_tag.specs.Octets.{IsMark}
use Rattle.bac_tag.specs.Spelling.{IsLeast}
use Rattle.bac_data.specs.Events.{Event, opening, SpellsEvents}

-- The mark is that of the octets before the place against the least octets that spell the opening tag and these events.
pub record HasMark (number : ℕ) (input : List ℕ) (place : ℕ) (es : List Event) (mark : Option ℕ) : Type 0 where
  pub least : List ℕ
  pub is_least : IsLeast (SpellsEvents (opening number ∷ es)) least
  pub is_mark : IsMark (take place input) least mark
