-- The canonical octets that a reader keeps.
use Rattle.std.specs.Prelude.{ℕ, List, take, nat_le, if◌then◌else◌}

-- If the count is at most 24, so many of the few octets, and else the many.
abbrev pub kept_octets : ℕ → List ℕ → List ℕ → List ℕ
kept_octets count few many = if nat_le count 24 then take count few else many
