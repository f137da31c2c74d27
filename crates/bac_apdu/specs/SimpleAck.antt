-- SimpleACK (clause 20.1.4).
use Rattle.std.specs.Prelude.{ℕ, None, List, [], ◌∷◌}
use Rattle.bac_tag.specs.HeadOctets.{Part, typed, octet}

-- The parts of the head of a SimpleACK, in the order of its octets. They are type 2 with bits 3 to 0 free; invoke id;
-- service choice.
abbrev pub simple_ack_head : ℕ → ℕ → List Part
simple_ack_head invoke choice = typed 2 None None None None ∷ octet invoke ∷ octet choice ∷ []
