-- Reject (clause 20.1.8).
use Rattle.std.specs.Prelude.{ℕ, None, List, [], ◌∷◌}
use Rattle.bac_tag.specs.HeadOctets.{Part, typed, octet}

-- The parts of the head of a Reject, in the order of its octets. They are type 6 with bits 3 to 0 free; invoke id; reason.
abbrev pub reject_head : ℕ → ℕ → List Part
reject_head invoke reason = typed 6 None None None None ∷ octet invoke ∷ octet reason ∷ []
