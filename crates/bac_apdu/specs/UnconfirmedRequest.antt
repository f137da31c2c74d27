-- Unconfirmed-Request (clause 20.1.3).
use Rattle.std.specs.Prelude.{ℕ, None, List, [], ◌∷◌}
use Rattle.bac_tag.specs.HeadOctets.{Part, typed, octet}

-- The parts of the head of an Unconfirmed-Request, in the order of its octets. They are type 1 with bits 3 to 0 free;
-- service choice.
abbrev pub unconfirmed_request_head : ℕ → List Part
unconfirmed_request_head choice = typed 1 None None None None ∷ octet choice ∷ []
