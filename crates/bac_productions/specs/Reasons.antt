-- The reasons for which octets are refused.
use Rattle.std.specs.Prelude.{◌≡◌, ◌⊎◌}
use Rattle.bac_tag.specs.declared.refusals.Why.{Why}
use Rattle.bac_tag.specs.declared.refusals.Why.TheVariants.{Trailing, OutOfMemory}
use Rattle.bac_data.specs.Refusals.{IsItemReason}

-- The reasons for which a part of a production is refused: Short, Tag, Length, Content and Depth. They are those of what is
-- next in an open value.
abbrev pub IsPartReason : Why → Type 0
IsPartReason = IsItemReason

-- The reasons why no spelling continues after some octets: those of a part, and Trailing.
abbrev pub IsReachReason : Why → Type 0
IsReachReason why = (why ≡ Trailing) ⊎ IsPartReason why

-- The reasons for which a service is refused: Short, Tag, Length, Content, Depth, Trailing and OutOfMemory.
abbrev pub IsServiceReason : Why → Type 0
IsServiceReason why = (why ≡ OutOfMemory) ⊎ IsReachReason why
