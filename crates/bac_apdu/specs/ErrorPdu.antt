-- Error (clause 20.1.7).
use Rattle.std.specs.Prelude.{ℕ, None, List, [], ◌∷◌}
use Rattle.bac_tag.specs.HeadOctets.{Part, typed, octet}

-- The parts of the head of an Error, in the order of its octets. They are type 5 with bits 3 to 0 free; invoke id; service
-- choice.
abbrev pub error_head : ℕ → ℕ → List Part
error_head invoke choice = typed 5 None None None None ∷ octet invoke ∷ octet choice ∷ []
