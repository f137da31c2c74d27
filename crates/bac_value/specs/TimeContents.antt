-- A Time as contents (clause 20.2.13).
use Rattle.std.specs.Prelude.{◌≡◌, ℕ, List, length}
use Rattle.bac_tag.specs.Octets.{IsOctets}
use Rattle.bac_value.specs.declared.types.time_value.Time.{Time}

-- A Time is four octets: the hour, the minute, the second, the hundredths of a second. Any octets are kept, those of no time
-- too.
abbrev pub IsTime : Time → Type 0
IsTime value = IsOctets value.0 × (length value.0 ≡ 4)

-- The contents of a Time are its four octets: the hour, the minute, the second, the hundredths.
abbrev pub time_octets : Time → List ℕ
time_octets value = value.0
