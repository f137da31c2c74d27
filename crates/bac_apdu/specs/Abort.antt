-- Abort (clause 20.1.9).
use Rattle.std.specs.Prelude.{ℕ, Bool, Some, None, List, [], ◌∷◌}
use Rattle.bac_tag.specs.HeadOctets.{Part, typed, octet}

-- The parts of the head of an Abort, in the order of its octets. They are type 7 with bits 3 to 1 free and SRV; invoke id;
-- reason.
abbrev pub abort_head : ℕ → Bool → ℕ → List Part
abort_head invoke srv reason = typed 7 None None None (Some srv) ∷ octet invoke ∷ octet reason ∷ []
