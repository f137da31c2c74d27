use Rattle.std.specs.Prelude.{◌≡◌, ℕ, true, List, [], ◌∷◌, ◌++◌}
use Rattle.std.proofs.Common.{sym, ◌∙◌, ap}
use Rattle.bac_tag.specs.Spelling.{IsLeast}
use Rattle.bac_npdu_parts.specs.Frames.{FrameValue, SpellsFrame}
use Rattle.bac_npdu.proofs.FrameOctets.{frame as frame_octets}
use Rattle.bac_field_parts.specs.Symbols.{Symbol, finished}
use Rattle.bac_fields.specs.FrameFields.{fields, frame_steps}
use Rattle.bac_fields.specs.FrameSymbols.{frame_said}
use Rattle.bac_fields.specs.Line.{printed}
use Rattle.bac_lines.specs.Scanning.{AreTokens}
use Rattle.bac_lines.proofs.FrameTokens.{frame_tokens}
use Rattle.bac_lines.proofs.ReadingLemmas.{told}
use Rattle.bac_lines.proofs.SaidLemmas.{same_said}
use Rattle.bac_lines.proofs.laws.lines_are_of_one_frame.Goals as goal

are_tokens : (f : FrameValue) → (c : List ℕ) × IsLeast (SpellsFrame f) c → AreTokens [] (fields f)
are_tokens f least = frame_tokens f least.0 least.1 (frame_octets f least.0 least.1.member)

frame_same : (f g : FrameValue) → (c : List ℕ) × IsLeast (SpellsFrame f) c → (c : List ℕ) × IsLeast (SpellsFrame g) c → printed (fields f) ≡ printed (fields g) → frame_said f ≡ frame_said g
frame_same f g m n e =
    let said = same_said true [] (fields f) (fields g) (are_tokens f m) (are_tokens g n) e in
    ap (λ (l : List Symbol). l ++ finished ∷ []) (sym (told (frame_steps f)) ∙ said ∙ told (frame_steps g))

pub returns : goal.returns
returns c = λ f g a b s t e.
    let canonical = c.frames_have_canonical_octets.ensures in
    let prints = c.the_line_is_the_fields.ensures in
    c.what_fields_say_tells_the_frame.ensures f g a b s t (frame_same f g (canonical f a s) (canonical g b t) (prints f a s ∙ e ∙ sym (prints g b t)))
