-- How far a reader of an open value is.
use Rattle.std.specs.Prelude.{◌≡◌, ℕ, ◌-◌, ◌≤◌, Option, List, ◌∷◌, ◌++◌, length, take, drop}
use Rattle.bac_tag.specs.declared.heads.TagHead.TheVariants.{Open, Close}
use Rattle.bac_tag.specs.Heads.{Heads}
use Rattle.bac_tag.specs.Spelling.{IsLeast}
use Rattle.bac_data.specs.declared.listing.Listing.{Listing}
use Rattle.bac_data.specs.Events.{Event, opening, SpellsEvents}
use Rattle.bac_data.specs.Building.{Keeps, held_octets}
use Rattle.bac_data.specs.Listings.{Lists}
use Rattle.bac_data.specs.Marks.{HasMark}

-- The octets from one place up to another.
abbrev pub part : List ℕ → ℕ → ℕ → List ℕ
part input from place = take (place - from) (drop from input)

-- The canonical octets of the events so far, which begin at the start. If there is no mark, they are those of the input, and
-- else those that are kept.
abbrev pub held_so_far : List ℕ → ℕ → ℕ → List ℕ → Option ℕ → List ℕ
held_so_far input start place kept mark = held_octets mark (part input start place) kept

-- The octets before the place are an opening tag of that number, which ends at the start, and events. These are listed.
pub record Progress (number : ℕ) (input : List ℕ) (start place : ℕ) (kept : List ℕ) (mark : Option ℕ) (nodes : Listing) : Type 0 where
  pub es : List Event
  pub numbers : List ℕ
  pub within : place ≤ length input
  pub spelled : SpellsEvents (opening number ∷ es) (take place input)
  pub marked : HasMark number input place es mark
  pub keeps : Keeps mark es kept
  pub begun : start ≤ place
  pub opened : Heads (Open number) (take start input)
  pub lists : Lists number nodes es (held_so_far input start place kept mark) numbers

-- Behind the events whose canonical octets are held there are more, whose canonical octets are those from one place up to
-- another. All of them are listed.
pub record Continues (number : ℕ) (input : List ℕ) (from place : ℕ) (nodes : Listing) (es : List Event) (held : List ℕ) : Type 0 where
  pub more : List Event
  pub numbers : List ℕ
  pub least : IsLeast (SpellsEvents more) (part input from place)
  pub lists : Lists number nodes (es ++ more) (held ++ part input from place) numbers

-- No group is open, and at the place so many octets are the canonical ones of the closing tag with that number.
pub record Closes (number : ℕ) (input : List ℕ) (place : ℕ) (nodes : Listing) (taken : ℕ) : Type 0 where
  pub closed : nodes.depth ≡ 0
  pub within : taken ≤ length (drop place input)
  pub least : IsLeast (Heads (Close number)) (take taken (drop place input))
