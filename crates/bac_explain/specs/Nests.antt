-- Octets that are elements as an open value has them (clause 20.2): values under their tags, and groups that nest.
use Rattle.std.specs.Prelude.{◌≡◌, ℕ, ◌+◌, ◌<◌, false, List, [], ◌∷◌, ◌++◌, length}
use Rattle.bac_tag.specs.declared.heads.TagHead.{TagHead}
use Rattle.bac_tag.specs.declared.heads.TagHead.TheVariants.{Open, Close}
use Rattle.bac_explain.specs.declared.piece.Piece.{Piece}
use Rattle.bac_explain.specs.declared.piece.Kind.{Kind}
use Rattle.bac_explain.specs.declared.piece.Kind.TheVariants as kind
use Rattle.bac_explain.specs.Elements.{Elements, contents_size}

-- The numbers of the groups that are open before a head and after it, the innermost one last. An opening tag opens one more, if
-- fewer than 32 are open. A closing tag closes the innermost one, and has its number.
abbrev pub Follows : List ℕ → TagHead → List ℕ → Type 0
Follows groups (Open number) after = (length groups < 32) × (after ≡ groups ++ number ∷ [])
Follows groups (Close number) after = groups ≡ after ++ number ∷ []
Follows groups _ after = after ≡ groups

-- A piece may be where these groups are open, and leaves those open. It has all the contents that its head says.
abbrev pub FollowsPiece : List ℕ → Piece → Kind → List ℕ → Type 0
FollowsPiece groups p (kind.Unjudged head) after = Follows groups head after × (p.length ≡ p.head + contents_size head)
FollowsPiece groups p _ after = ⊥

-- A head cannot be where these groups are open.
abbrev pub Misses : List ℕ → TagHead → Type 0
Misses groups head = (after : List ℕ) → Follows groups head after → ⊥

-- A piece cannot be where these groups are open.
abbrev pub MissesPiece : List ℕ → Piece → Kind → Type 0
MissesPiece groups p k = (after : List ℕ) → FollowsPiece groups p k after → ⊥

-- The groups that are open before pieces, and after them.
abbrev pub Nested : List ℕ → List Piece → List ℕ → Type 0
Nested groups [] after = after ≡ groups
Nested groups (p ∷ ps) after = (mid : List ℕ) × FollowsPiece groups p p.kind mid × Nested mid ps after

-- From a place on, the octets are elements, and each group is closed.
pub record IsNest (octets : List ℕ) (from : ℕ) : Type 0 where
  pub pieces : List Piece
  pub elements : Elements false octets 0 from pieces 0 (length octets)
  pub nested : Nested [] pieces []
