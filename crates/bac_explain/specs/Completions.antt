-- What is written to explain octets that are refused.
use Rattle.std.specs.Prelude.{◌≡◌, ◌⊎◌, ℕ, zero, suc, Option, None, List, ◌∷◌, ◌++◌, take, slice_get}
use Rattle.bac_tag.specs.declared.refusals.Refusal.{Refusal}
use Rattle.bac_tag.specs.Spelling.{IsLeast}
use Rattle.bac_npdu_parts.specs.Frames.{FrameValue, SpellsFrame}
use Rattle.bac_fields.specs.FrameFields.{placed_fields}
use Rattle.bac_explain.specs.declared.piece.Piece.{Piece}
use Rattle.bac_explain.specs.declared.verdict.Verdict.{Verdict}
use Rattle.bac_explain.specs.declared.verdict.Verdict.TheVariants.{Accepted, Refused}
use Rattle.bac_explain.specs.Explained.{Explains}
use Rattle.bac_explain.specs.Explanations.{IsExplanation, IsFrameExplanation}
use Rattle.bac_explain.specs.Hints.{IsHint}
use Rattle.bac_explain.specs.NamedLines.{AreNamedLines}
use Rattle.bac_explain.specs.Typed.{is_typed}

-- The octets spell a frame, and these are the first of them.
pub record IsCompletion (front whole : List ℕ) : Type 0 where
  pub frame : FrameValue
  pub spelled : SpellsFrame frame whole
  pub more : List ℕ
  pub begins : whole ≡ front ++ more

-- The first so many pieces of two lists have the same places, and as many octets.
abbrev pub SameOctets : ℕ → List Piece → List Piece → Type 0
SameOctets zero ps qs = Unit {0}
SameOctets (suc count) (p ∷ ps) (q ∷ qs) = (p.place ≡ q.place) × (p.length ≡ q.length) × SameOctets count ps qs
SameOctets (suc count) ps qs = ⊥

-- They are the lines of the pieces of octets that are refused. The octets before the place of the refusal begin those of a frame.
-- As many pieces as both have are beside those of the canonical octets of this frame, with the names of its fields. The hint at the
-- refusal is the next piece.
pub record AreBesideCompletion (octets : List ℕ) (refusal : Refusal) (lines : List ℕ) : Type 0 where
  pub whole : List ℕ
  pub completion : IsCompletion (take refusal.place octets) whole
  pub mark : Option ℕ
  pub wholes : List Piece
  pub explains_whole : Explains whole (Accepted mark (is_typed completion.frame.body)) wholes
  pub canonical : List ℕ
  pub is_canonical : IsLeast (SpellsFrame completion.frame) canonical
  pub others : List Piece
  pub explains_others : Explains canonical (Accepted None (is_typed completion.frame.body)) others
  pub pieces : List Piece
  pub explains : Explains octets (Refused refusal) pieces
  pub count : ℕ
  pub same : SameOctets count pieces wholes
  pub hint : List ℕ
  pub is_hint : IsHint (placed_fields completion.frame) (slice_get others count) hint
  pub are_lines : AreNamedLines octets canonical (placed_fields completion.frame) hint pieces (take count others) lines

-- They are the lines of the pieces of octets that are refused, beside those of a frame that begins so, or by themselves.
abbrev pub IsRefusalExplanation : List ℕ → Refusal → List ℕ → Type 0
IsRefusalExplanation octets refusal lines = AreBesideCompletion octets refusal lines ⊎ IsExplanation octets (Refused refusal) lines

-- They are the lines of the pieces of octets of which this is said: of a frame that they spell, or of the refusal.
abbrev pub IsToldAs : List ℕ → Verdict → List ℕ → Type 0
IsToldAs octets (Accepted mark typed) lines = (f : FrameValue) × SpellsFrame f octets × IsFrameExplanation octets f mark lines
IsToldAs octets (Refused refusal) lines = IsRefusalExplanation octets refusal lines
