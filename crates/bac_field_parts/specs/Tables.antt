-- Lists whose number of items is in an octet before them.
use Rattle.std.specs.Prelude.{ℕ, List, length}
use Rattle.bac_tag.specs.Spelling.{Joins, Joined}
use Rattle.bac_productions.specs.Productions.{Items}
use Rattle.bac_field_parts.specs.OctetForms.{IsOneOctet}

-- The octet with the number of the items, the items, and what comes after them.
abbrev pub SpellsTable : {V W : Type 0} → (V → List ℕ → Type 0) → (W → List ℕ → Type 0) → List V × W → List ℕ → Type 0
SpellsTable S T x = Joins (IsOneOctet (length x.0)) (Joined (Items S) T x)
