-- A Date as contents (clause 20.2.12).
use Rattle.std.specs.Prelude.{◌≡◌, ℕ, List, length}
use Rattle.bac_tag.specs.Octets.{IsOctets}
use Rattle.bac_value.specs.declared.types.date_value.Date.{Date}

-- A Date is four octets: the year less 1900, the month, the day, the day of the week. Any octets are kept, those of no day too.
abbrev pub IsDate : Date → Type 0
IsDate value = IsOctets value.0 × (length value.0 ≡ 4)

-- The contents of a Date are its four octets: the year, the month, the day, the day of the week.
abbrev pub date_octets : Date → List ℕ
date_octets value = value.0
