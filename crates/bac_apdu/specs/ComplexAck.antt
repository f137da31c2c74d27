-- ComplexACK (clause 20.1.5), in one piece.
use Rattle.std.specs.Prelude.{ℕ, false, Some, None, List, [], ◌∷◌}
use Rattle.bac_tag.specs.HeadOctets.{Part, typed, octet}

-- The parts of the head of a ComplexACK in one piece, in the order of its octets. They are type 3 with SEG, MOR free and
-- bits 1 and 0 free; invoke id; service choice.
abbrev pub complex_ack_head : ℕ → ℕ → List Part
complex_ack_head invoke choice = typed 3 (Some false) None None None ∷ octet invoke ∷ octet choice ∷ []
