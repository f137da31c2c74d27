-- Laws of frames.
use Rattle.std.specs.Prelude.{◌≡◌, ℕ, ◌≤◌, List, [], ◌++◌, length}
use Rattle.std.proofs.Common.{inl, inr, arith}
use Rattle.bac_tag.specs.Octets.{NoGreater}
use Rattle.bac_tag.specs.Spelling.{IsLeast}
use Rattle.bac_tag.proofs.HeadOctetLemmas.{parts_are}
use Rattle.bac_apdu.specs.Apdus.{ApduValue, SpellsApdu}
use Rattle.bac_npdu_parts.specs.Messages.{MessageValue, octets_of, SpellsMessage}
use Rattle.bac_npdu_parts.specs.Frames.{BodyValue, apdu, message, FrameValue, SpellsBody, SpellsFrame}
use Rattle.bac_npdu_parts.proofs.FrameLemmas.{least_before, frame_least}
use Rattle.bac_npdu_parts.proofs.HeldLemmas.{message_held}

no_longer : (c b : List ℕ) → NoGreater c b → length c ≤ length b
no_longer c b (inl lt) = omega (arith, lt)
no_longer c b (inr same) = omega (arith, same.0)

pub frame_no_longer : (f : FrameValue) (b c : List ℕ) → IsLeast (SpellsFrame f) c → SpellsFrame f b → length c ≤ length b
frame_no_longer f b c L s = no_longer c b (L.least b s)

message_canonical : (m : MessageValue) (b : List ℕ) → SpellsMessage m b → (c : List ℕ) × IsLeast (SpellsMessage m) c
message_canonical m b p = message_held m p.0 (parts_are (octets_of m) (λ rest. rest ≡ []) b p.1)

module _ (apdus : (v : ApduValue) (b : List ℕ) → SpellsApdu v b → (c : List ℕ) × IsLeast (SpellsApdu v) c) where
  body_canonical : (x : BodyValue) (b : List ℕ) → SpellsBody x b → (c : List ℕ) × IsLeast (SpellsBody x) c
  body_canonical (apdu a) b p = apdus a b p
  body_canonical (message m) b p = message_canonical m b p

  pub frame_canonical : (f : FrameValue) (b : List ℕ) → SpellsFrame f b → (c : List ℕ) × IsLeast (SpellsFrame f) c
  frame_canonical f b s =
      let body = body_canonical f.body s.body s.is_body in
      (least_before f ++ body.0, frame_least f body.0 s.has_address (omega (arith, s.is_control.priority)) s.are_octets body.1)
