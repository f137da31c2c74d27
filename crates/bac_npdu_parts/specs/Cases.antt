-- A frame by what its body is, and by its parts (clause 6.2).
use Rattle.std.specs.Prelude.{◌≡◌, ℕ, List, []}
use Rattle.bac_apdu.specs.Apdus.{ApduValue}
use Rattle.bac_npdu_parts.specs.Messages.{MessageValue}
use Rattle.bac_npdu_parts.specs.Frames.{FrameValue, BodyValue, apdu, message, is_message, Framed, SpellsFrame}
use Rattle.bac_npdu_parts.specs.FrameHeads.{HeadValue, frame_with}
use Rattle.bac_npdu_parts.specs.HeadsRead.{SpellsBodyOf}

-- ---- the lists that spell a frame with one kind of body

-- The lists that spell a frame with this head and this APDU.
abbrev pub SpellsWithApdu : HeadValue × ApduValue → List ℕ → Type 0
SpellsWithApdu (head, a) = SpellsFrame (frame_with head (apdu a))

-- The lists that spell a frame with this head and this network message.
abbrev pub SpellsWithMessage : HeadValue × MessageValue → List ℕ → Type 0
SpellsWithMessage (head, m) = SpellsFrame (frame_with head (message m))

-- ---- its parts

-- The lists that spell what comes before the body of a frame: version, control octet, addresses. They are those that
-- Framed has with an empty body.
abbrev pub SpellsHead : FrameValue → List ℕ → Type 0
SpellsHead f = Framed f (λ rest. rest ≡ [])

-- The lists that spell a body after the head of this frame. The body is a network message exactly where that of the frame is
-- one, which the control octet says. Else it is an APDU.
abbrev pub SpellsAfter : FrameValue → BodyValue → List ℕ → Type 0
SpellsAfter f = SpellsBodyOf (is_message f.body)
