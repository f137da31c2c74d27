-- The reasons for which an open value, or a part of it, is refused.
use Rattle.std.specs.Prelude.{◌≡◌, ℕ, ◌<◌, ◌%◌, List, ◌∷◌, length, take, slice_index}
use Rattle.bac_data.specs.Events.{Event, opening, SpellsEvents}
use Rattle.bac_data.specs.Building.{HasOpen}
use Rattle.bac_tag.specs.declared.refusals.Why.{Why}
use Rattle.bac_tag.specs.declared.refusals.Why.TheVariants.{Short, Tag, Length, Content, Depth, OutOfMemory}

-- The reasons for which what is next in an open value is refused: Short, Tag, Length, Content and Depth.
abbrev pub IsItemReason : Why → Type 0
IsItemReason Short = Unit {0}
IsItemReason Tag = Unit {0}
IsItemReason Length = Unit {0}
IsItemReason Content = Unit {0}
IsItemReason Depth = Unit {0}
IsItemReason _ = ⊥

-- The reasons for which what is under a head is refused: Short and Content.
abbrev pub IsContentsReason : Why → Type 0
IsContentsReason Short = Unit {0}
IsContentsReason Content = Unit {0}
IsContentsReason _ = ⊥

-- At the place is the first octet of an opening tag: an octet of context class with LVT 6 (clause 20.2.1.3.2).
abbrev pub BeginsGroup : ℕ → List ℕ → Type 0
BeginsGroup place octets = (place < length octets) × (slice_index octets place % 16 ≡ 14)

-- Another group begins at the place, and no more groups may nest there. The octets before the place spell an opening tag of
-- that number and events. After these events as many groups are open as the limit allows.
pub record IsTooDeep (limit number : ℕ) (octets : List ℕ) (place : ℕ) : Type 0 where
  pub events : List Event
  pub spelled : SpellsEvents (opening number ∷ events) (take place octets)
  pub full : HasOpen limit events limit
  pub begins : BeginsGroup place octets

-- The reasons for which an open value is refused: Short, Tag, Length, Content, Depth and OutOfMemory.
abbrev pub IsOpenValueReason : Why → Type 0
IsOpenValueReason Short = Unit {0}
IsOpenValueReason Tag = Unit {0}
IsOpenValueReason Length = Unit {0}
IsOpenValueReason Content = Unit {0}
IsOpenValueReason Depth = Unit {0}
IsOpenValueReason OutOfMemory = Unit {0}
IsOpenValueReason _ = ⊥
