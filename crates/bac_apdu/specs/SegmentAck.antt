-- SegmentACK (clause 20.1.6).
use Rattle.std.specs.Prelude.{ℕ, Bool, Some, None, List, [], ◌∷◌}
use Rattle.bac_tag.specs.HeadOctets.{Part, typed, octet, window}

-- The parts of the head of a SegmentACK, in the order of its octets. They are type 4 with bits 3 and 2 free, NAK and SRV;
-- invoke id; sequence number; actual window.
abbrev pub segment_ack_head : ℕ → Bool → Bool → ℕ → ℕ → List Part
segment_ack_head invoke nak srv seq size = typed 4 None None (Some nak) (Some srv) ∷ octet invoke ∷ octet seq ∷ window size ∷ []
