-- What C gets of the pieces of octets and of their lines. Codes are those of enum bactool_code in include/bactool.h.
use Rattle.std.specs.Prelude.{◌≡◌, ℕ, ◌+◌, ◌<◌, ◌≤◌, None, Some, List, length, map, take}
use Rattle.bac_tag.specs.declared.refusals.Refusal.{Refusal}
use Rattle.bac_explain.specs.declared.numbers.PieceNumbers.{PieceNumbers}
use Rattle.bac_explain.specs.declared.piece.Piece.{Piece}
use Rattle.bac_explain.specs.declared.verdict.Verdict.{Verdict}
use Rattle.bac_explain.specs.declared.verdict.Verdict.TheVariants.{Accepted, Refused}
use Rattle.bac_explain.specs.Completions.{IsToldAs}
use Rattle.bac_explain.specs.Explained.{Explains}
use Rattle.bac_explain.specs.Numbers.{IsPieceOf, numbers_of}
use Rattle.bac_explain.specs.Tiles.{octets_of}
use Rattle.bac_explain.specs.Verdicts.{IsVerdict}
use Rattle.bac_explain.specs.Words.{IsSaid}
use Rattle.bac_c.specs.declared.outcomes.Outcome.{Outcome}
use Rattle.bac_c.specs.Outcomes.{IsFront, differs_at, nothing, refused_as}

-- ---- pieces

-- The code of a verdict: 0 (OK), 1 (TOLERATED) or 3 (REFUSED).
abbrev pub verdict_code : Verdict → ℕ
verdict_code (Accepted None typed) = 0
verdict_code (Accepted (Some place) typed) = 1
verdict_code (Refused refusal) = 3

-- The outcome of a verdict, before the pieces or their lines are counted.
abbrev pub verdict_outcome : Verdict → Outcome
verdict_outcome (Accepted None typed) = nothing
verdict_outcome (Accepted (Some place) typed) = differs_at place
verdict_outcome (Refused refusal) = refused_as refusal

-- The outcome with so many pieces.
abbrev pub with_pieces : ℕ → Outcome → Outcome
with_pieces count outcome = record outcome { fields = count }

-- The code and the outcome are those of a verdict on the octets and of the number of their pieces, which are at most one more
-- than the octets. The new list begins with these pieces, as far as the old one is long enough, and what came after them in the
-- old one is still there.
pub record IsExplained (octets : List ℕ) (old new : List PieceNumbers) (code : ℕ) (outcome : Outcome) : Type 0 where
  pub verdict : Verdict
  pub is_verdict : IsVerdict octets verdict
  pub pieces : List Piece
  pub explains : Explains octets verdict pieces
  pub few : length pieces ≤ length octets + 1
  pub code_is : code ≡ verdict_code verdict
  pub told : outcome ≡ with_pieces (length pieces) (verdict_outcome verdict)
  pub written : IsFront (map numbers_of (take (length old) pieces)) old new

-- The outcome is that of a refusal of the kind, with some number of pieces.
abbrev pub TellsOfPieces : (Refusal → Type 0) → Outcome → Type 0
TellsOfPieces Refuses outcome = (refusal : Refusal) × Refuses refusal × (outcome ≡ with_pieces outcome.fields (refused_as refusal))

-- ---- the words of a piece

-- The piece is the only one of the octets that has these numbers.
pub record IsOnlyPiece (octets : List ℕ) (numbers : PieceNumbers) (p : Piece) : Type 0 where
  pub is_piece : IsPieceOf octets p
  pub has_numbers : numbers_of p ≡ numbers
  pub only : (q : Piece) → IsPieceOf octets q → numbers_of q ≡ numbers → q ≡ p

-- The words are those of the only piece of the octets that has these numbers.
abbrev pub IsTextOfPiece : List ℕ → PieceNumbers → List ℕ → Type 0
IsTextOfPiece octets numbers words = (p : Piece) × IsOnlyPiece octets numbers p × IsSaid p (octets_of octets p) words

-- No piece of the octets has these numbers.
abbrev pub IsNoPiece : List ℕ → PieceNumbers → Type 0
IsNoPiece octets numbers = (p : Piece) → IsPieceOf octets p → numbers_of p ≡ numbers → ⊥

-- ---- lines

-- The outcome with so many octets of lines.
abbrev pub with_octets : ℕ → Outcome → Outcome
with_octets count outcome = record outcome { count = count }

-- The code and the outcome are those of a verdict on the octets and of the number of octets of the lines of their pieces. The new
-- list begins with all these lines, and what came after them in the old one is still there. If the old list is shorter than the
-- lines, it stays as it was.
pub record IsExplainedInLines (octets old new : List ℕ) (code : ℕ) (outcome : Outcome) : Type 0 where
  pub verdict : Verdict
  pub is_verdict : IsVerdict octets verdict
  pub lines : List ℕ
  pub are_lines : IsToldAs octets verdict lines
  pub code_is : code ≡ verdict_code verdict
  pub told : outcome ≡ with_octets (length lines) (verdict_outcome verdict)
  pub written : length lines ≤ length old → IsFront lines old new
  pub unchanged : length old < length lines → new ≡ old

-- The outcome is that of a refusal of the kind, with some number of octets of lines.
abbrev pub TellsOfLines : (Refusal → Type 0) → Outcome → Type 0
TellsOfLines Refuses outcome = (refusal : Refusal) × Refuses refusal × (outcome ≡ with_octets outcome.count (refused_as refusal))
