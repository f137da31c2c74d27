-- Reasons and refusals.
use Rattle.std.specs.Prelude.{ℕ, ◌+◌, List, codes, nat_lt, nat_eq, ◌||◌, ◌&&◌, if◌then◌else◌}
use Rattle.bac_tag.specs.declared.refusals.Refusal.{Refusal}
use Rattle.bac_tag.specs.declared.refusals.Why.{Why}
use Rattle.bac_tag.specs.declared.refusals.Why.TheVariants.{Short, Trailing, Version, Address, PduType, Window, Tag, Length, Content, Depth, NotCanonical, OutOfMemory}

-- The name of a reason, as the program prints it.
abbrev pub name_of : Why → List ℕ
name_of Short = codes "Short"
name_of Trailing = codes "Trailing"
name_of Version = codes "Version"
name_of Address = codes "Address"
name_of PduType = codes "PduType"
name_of Window = codes "Window"
name_of Tag = codes "Tag"
name_of Length = codes "Length"
name_of Content = codes "Content"
name_of Depth = codes "Depth"
name_of NotCanonical = codes "NotCanonical"
name_of OutOfMemory = codes "OutOfMemory"

-- The weight of a reason is how telling it is, where several readings of an input come to one place: 2 for Depth, 1 for Length,
-- 0 for the others.
abbrev pub weight_of : Why → ℕ
weight_of Depth = 2
weight_of Length = 1
weight_of _ = 0

-- The one of two refusals that came farther, or at one place the one whose reason weighs more. It is the second if its place is
-- greater, or if the places are the same and its reason weighs more; else it is the first.
abbrev pub farther_of : Refusal → Refusal → Refusal
farther_of r s = if nat_lt r.place s.place || (nat_eq r.place s.place && nat_lt (weight_of r.why) (weight_of s.why)) then s else r

-- The same refusal of an input with count more octets at the front.
abbrev pub behind : ℕ → Refusal → Refusal
behind count r = record { place = count + r.place; why = r.why }

-- The reason is one of those for which a head is refused: Short, Tag and Length.
abbrev pub IsHeadReason : Why → Type 0
IsHeadReason Short = Unit {0}
IsHeadReason Tag = Unit {0}
IsHeadReason Length = Unit {0}
IsHeadReason _ = ⊥
