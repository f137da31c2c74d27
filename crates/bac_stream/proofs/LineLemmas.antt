-- How long the names of reasons are.
use Rattle.std.proofs.Common.{◌≤◌, length, arith}
use Rattle.bac_tag.specs.declared.refusals.Why.{Why}
use Rattle.bac_tag.specs.declared.refusals.Why.TheVariants.{Short, Trailing, Version, Address, PduType, Window, Tag, Length, Content, Depth, NotCanonical, OutOfMemory}
use Rattle.bac_tag.specs.Refusals.{name_of}

-- The longest is NotCanonical.
pub name_short : (why : Why) → length (name_of why) ≤ 12
name_short Short = omega arith
name_short Trailing = omega arith
name_short Version = omega arith
name_short Address = omega arith
name_short PduType = omega arith
name_short Window = omega arith
name_short Tag = omega arith
name_short Length = omega arith
name_short Content = omega arith
name_short Depth = omega arith
name_short NotCanonical = omega arith
name_short OutOfMemory = omega arith
