-- What is written to explain octets.
use Rattle.std.specs.Prelude.{ℕ, Bool, Option, None, List, []}
use Rattle.bac_tag.specs.Spelling.{IsLeast}
use Rattle.bac_npdu_parts.specs.Frames.{FrameValue, SpellsFrame}
use Rattle.bac_field_parts.specs.declared.field.Field.{Field}
use Rattle.bac_fields.specs.FrameFields.{placed_fields}
use Rattle.bac_explain.specs.declared.piece.Piece.{Piece}
use Rattle.bac_explain.specs.declared.verdict.Verdict.{Verdict}
use Rattle.bac_explain.specs.declared.verdict.Verdict.TheVariants.{Accepted}
use Rattle.bac_explain.specs.Explained.{Explains}
use Rattle.bac_explain.specs.Lines.{AreLines}
use Rattle.bac_explain.specs.NamedLines.{AreNamedLines}
use Rattle.bac_explain.specs.Typed.{is_typed}

-- They are the lines of the pieces of the octets, of which this was said.
abbrev pub IsExplanation : List ℕ → Verdict → List ℕ → Type 0
IsExplanation octets verdict lines = (pieces : List Piece) × Explains octets verdict pieces × AreLines octets pieces lines

-- They are the lines of the pieces of accepted octets with this mark, beside those of the canonical octets with these fields.
abbrev pub IsNamedExplanation : List ℕ → Option ℕ → Bool → List ℕ → List Field → List ℕ → Type 0
IsNamedExplanation octets mark typed canonical fields lines =
    (pieces : List Piece) × Explains octets (Accepted mark typed) pieces
    × ((others : List Piece) × Explains canonical (Accepted None typed) others × AreNamedLines octets canonical fields [] pieces others lines)

-- They are the lines of the pieces of octets that spell the frame with this mark, beside those of its canonical octets, with its
-- fields.
abbrev pub IsFrameExplanation : List ℕ → FrameValue → Option ℕ → List ℕ → Type 0
IsFrameExplanation octets f mark lines =
    (canonical : List ℕ) × IsLeast (SpellsFrame f) canonical × IsNamedExplanation octets mark (is_typed f.body) canonical (placed_fields f) lines
