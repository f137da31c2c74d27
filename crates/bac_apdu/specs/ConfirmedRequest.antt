-- Confirmed-Request (clause 20.1.2), in one piece.
use Rattle.std.specs.Prelude.{ℕ, false, Some, None, List, [], ◌∷◌}
use Rattle.bac_apdu.specs.declared.confirmed_request.RequestHead.{RequestHead}
use Rattle.bac_tag.specs.HeadOctets.{Part, typed, limits, octet}

-- The parts of the head of a Confirmed-Request in one piece, in the order of its octets. They are type 0 with SEG, MOR
-- free, SA and bit 0 free; max-segments and max-response; invoke id; service choice.
abbrev pub confirmed_request_head : RequestHead → ℕ → List Part
confirmed_request_head head choice = typed 0 (Some false) None (Some head.sa) None ∷ limits head.segs head.resp ∷ octet head.invoke ∷ octet choice ∷ []
