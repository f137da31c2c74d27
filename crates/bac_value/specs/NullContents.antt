-- Null as contents (clause 20.2.2).
use Rattle.std.specs.Prelude.{ℕ, List, []}
use Rattle.bac_value.specs.declared.types.null_value.Null.{Null}

-- This holds of the one value of Null.
abbrev pub IsNull : Null → Type 0
IsNull value = Unit {0}

-- The contents of Null are no octets.
abbrev pub null_octets : Null → List ℕ
null_octets value = []
