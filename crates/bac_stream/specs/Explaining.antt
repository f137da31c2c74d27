-- What explain writes of a record.
use Rattle.std.specs.Prelude.{◌≡◌, ◌↔◌, ◌⊎◌, ℕ, ◌≤◌, ◌++◌, Option, None, List, length}
use Rattle.bac_tag.specs.declared.refusals.Refusal.{Refusal}
use Rattle.bac_tag.specs.Spelling.{HasMark}
use Rattle.bac_npdu_parts.specs.Frames.{FrameValue, SpellsFrame}
use Rattle.bac_explain.specs.Completions.{IsRefusalExplanation}
use Rattle.bac_explain.specs.Explanations.{IsFrameExplanation}
use Rattle.bac_stream.specs.declared.modes.Mode.{Mode}
use Rattle.bac_stream.specs.Judging.{Accepts, IsCanonical, IsRefused, Refuses}
use Rattle.bac_stream.specs.Lines.{IsChecked, numbered, refused, said_of, said_text}

-- In the mode the octets are accepted as the frame and have this mark, which is None exactly if they are canonical.
pub record IsFrameOf (mode : Mode) (octets : List ℕ) (frame : FrameValue) (mark : Option ℕ) : Type 0 where
  pub accepted : Accepts mode frame octets
  pub marked : HasMark (SpellsFrame frame) octets mark
  pub canonical : (mark ≡ None) ↔ IsCanonical octets

-- In the mode the octets are accepted as no frame, and may be refused so, at a place within them or at their end.
pub record IsRefusedBy (mode : Mode) (octets : List ℕ) (refusal : Refusal) : Type 0 where
  pub refuses : Refuses mode octets refusal
  pub none : IsRefused mode octets
  pub within : refusal.place ≤ length octets

-- The output of octets that are accepted: the line that check writes of them, and the lines of their pieces with the names of the
-- fields.
pub record ExplainsFrame (mode : Mode) (number : ℕ) (octets output : List ℕ) : Type 0 where
  pub frame : FrameValue
  pub mark : Option ℕ
  pub accepted : Accepts mode frame octets
  pub checked : IsChecked mode octets (said_of mark)
  pub lines : List ℕ
  pub are_lines : IsFrameExplanation octets frame mark lines
  pub is : output ≡ numbered number (said_text (said_of mark)) ++ lines

-- The output of octets that are refused: the line that check writes of them, and the lines of their pieces, with the names of the
-- fields of a frame that begins so, or without.
pub record ExplainsRefusal (mode : Mode) (number : ℕ) (octets output : List ℕ) : Type 0 where
  pub refusal : Refusal
  pub checked : IsChecked mode octets (refused refusal)
  pub lines : List ℕ
  pub are_lines : IsRefusalExplanation octets refusal lines
  pub is : output ≡ numbered number (said_text (refused refusal)) ++ lines

-- The output of a record: that of octets that are accepted, or of octets that are refused.
abbrev pub ExplainsAs : Mode → ℕ → List ℕ → List ℕ → Type 0
ExplainsAs mode number octets output = ExplainsFrame mode number octets output ⊎ ExplainsRefusal mode number octets output
