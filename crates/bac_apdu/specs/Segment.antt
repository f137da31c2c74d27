-- Segments of Confirmed-Requests and ComplexACKs (clauses 20.1.2 and 20.1.5).
use Rattle.std.specs.Prelude.{ℕ, Bool, true, Some, None, List, [], ◌∷◌}
use Rattle.bac_apdu.specs.declared.segment.SegHead.{SegHead}
use Rattle.bac_apdu.specs.declared.segment.SegHead.TheVariants.{Request, Ack}
use Rattle.bac_tag.specs.HeadOctets.{Part, typed, limits, octet, window}

-- The parts of the head of a segment of a request or of an answer, in the order of its octets.
-- A request has type 0 with SEG, MOR, SA and bit 0 free; max-segments and max-response; invoke id; sequence number;
-- proposed window; service choice.
-- An answer has type 3 with SEG, MOR and bits 1 and 0 free; invoke id; sequence number; proposed window; service choice.
abbrev pub segment_head : SegHead → ℕ → ℕ → Bool → ℕ → List Part
segment_head (Request head) seq size more choice = typed 0 (Some true) (Some more) (Some head.sa) None ∷ limits head.segs head.resp ∷ octet head.invoke ∷ octet seq ∷ window size ∷ octet choice ∷ []
segment_head (Ack invoke) seq size more choice = typed 3 (Some true) (Some more) None None ∷ octet invoke ∷ octet seq ∷ window size ∷ octet choice ∷ []

-- How many octets the head of a segment has: 6 for a segment of a request, 5 for one of an answer.
abbrev pub segment_head_size : SegHead → ℕ
segment_head_size (Request head) = 6
segment_head_size (Ack invoke) = 5
