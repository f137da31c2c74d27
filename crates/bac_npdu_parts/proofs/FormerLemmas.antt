-- Frames as they were spelled before.
use Rattle.std.specs.Prelude.{◌≡◌, ◌↔◌, ℕ, List}
use Rattle.std.proofs.Common.{sym, ◌∙◌}
use Rattle.bac_apdu.specs.Apdus.{ApduValue, SpellsApdu}
use Rattle.bac_apdu.specs.FormerApdus.{SpellsFormerApdu, IsKept as IsKeptApdu}
use Rattle.bac_npdu_parts.specs.MessageTypes.{is_typed}
use Rattle.bac_npdu_parts.specs.Messages.{MessageValue, opaque, type_of, SpellsMessage}
use Rattle.bac_npdu_parts.specs.Frames.{BodyValue, apdu, message, FrameValue, SpellsBody, SpellsFrame}
use Rattle.bac_npdu_parts.specs.FormerFrames.{had_layout, SpellsFormerMessage, SpellsFormerBody, SpellsFormerFrame, IsKept}
use Rattle.bac_npdu_parts.proofs.FrameLemmas.{framed_as}

-- a message of a type that had a layout then as it has now; the second line is that of each other variant
message_same : (m : MessageValue) (b : List ℕ) → had_layout (type_of m) ≡ is_typed (type_of m) → SpellsFormerMessage m b ↔ SpellsMessage m b
message_same (opaque m) b e = (λ s. ((sym e ∙ s.0.0, s.0.1), s.1), λ s. ((e ∙ s.0.0, s.0.1), s.1))
message_same _ b e = (λ s. (tt, s.1), λ s. (e, s.1))

module _ (spelled : (v : ApduValue) (b c : List ℕ) → IsKeptApdu v → SpellsFormerApdu v b → SpellsFormerApdu v c ↔ SpellsApdu v c) where
  body_same : (x : BodyValue) (b c : List ℕ) → IsKept x → SpellsFormerBody x b → SpellsFormerBody x c ↔ SpellsBody x c
  body_same (apdu a) b c k p = spelled a b c k p
  body_same (message m) b c k p = message_same m c k

  pub frame_same : (f : FrameValue) (b c : List ℕ) → IsKept f.body → SpellsFormerFrame f b → SpellsFormerFrame f c ↔ SpellsFrame f c
  frame_same f b c k p =
      let same = λ (d : List ℕ). body_same f.body p.body d k p.is_body in
      (framed_as f c (λ d. (same d).0), framed_as f c (λ d. (same d).1))
