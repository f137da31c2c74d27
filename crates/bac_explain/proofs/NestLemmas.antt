-- Lemmas on elements that nest.
use Rattle.std.proofs.Common.{◌≡◌, ◌≤◌, ℕ, ◌+◌, false, List, [], ◌∷◌, ◌++◌, length, refl, ap, arith, subst, sym, ◌∙◌, length-append}
use Rattle.bac_tag.specs.declared.heads.TagHead.{TagHead}
use Rattle.bac_tag.specs.declared.heads.TagHead.TheVariants.{Open, Close}
use Rattle.bac_explain.specs.declared.piece.Piece.{Piece}
use Rattle.bac_explain.specs.declared.piece.Kind.{Kind}
use Rattle.bac_explain.specs.declared.piece.Kind.TheVariants as kind
use Rattle.bac_explain.specs.Elements.{Elements, IsElement, depth_behind, depth_after_head}
use Rattle.bac_explain.specs.Nests.{Follows, FollowsPiece, Nested}
use Rattle.bac_explain.proofs.ElementLemmas.{elements-more}

-- The octets up to a place are elements, and these groups are groups there.
pub record IsNestTo (octets : List ℕ) (from place : ℕ) (groups : List ℕ) : Type 0 where
  pub pieces : List Piece
  pub elements : Elements false octets 0 from pieces (length groups) place
  pub nested : Nested [] pieces groups
  pub within : place ≤ length octets

-- As many groups are groups as there are numbers.
follows-depth : (groups : List ℕ) (head : TagHead) (after : List ℕ) → Follows groups head after → length after ≡ depth_after_head (length groups) head
follows-depth groups (Open number) after f = ap length f.1 ∙ length-append groups (number ∷ [])
follows-depth groups (Close number) after f = omega (arith, ap length f, length-append after (number ∷ []))
follows-depth groups _ after f = ap length f

-- The same for a piece.
pub piece-depth : (groups : List ℕ) (p : Piece) (k : Kind) (after : List ℕ) → FollowsPiece groups p k after → length after ≡ depth_behind (length groups) k
piece-depth groups p (kind.Unjudged head) after f = follows-depth groups head after f.0
piece-depth groups p _ after f = absurd f

-- One more piece.
nested-more : (groups : List ℕ) (ps : List Piece) (mid : List ℕ) (p : Piece) (after : List ℕ) → Nested groups ps mid → FollowsPiece mid p p.kind after → Nested groups (ps ++ p ∷ []) after
nested-more groups [] mid p after e f = (after, subst (λ (groups : List ℕ). FollowsPiece groups p p.kind after) e f, refl)
nested-more groups (q ∷ ps) mid p after (between, first, others) f = (between, first, nested-more between ps mid p after others f)

-- One more piece of the octets.
pub nest-more : (octets : List ℕ) (from place : ℕ) (groups : List ℕ) (p : Piece) (after : List ℕ) (next : ℕ) → IsNestTo octets from place groups → (depth : ℕ) → depth ≡ length groups → IsElement false octets depth place p → FollowsPiece groups p p.kind after
    → next ≡ place + p.length → IsNestTo octets from next after
nest-more octets from place groups p after next so at deep found f ends =
    let is : IsElement false octets (length groups) place p = subst (λ n. IsElement false octets n place p) deep found in
    let depth = piece-depth groups p p.kind after f in
    let all = elements-more false octets 0 from so.pieces (length groups) place p so.elements is in
    record {
      pieces = so.pieces ++ p ∷ [];
      elements = subst (λ n. Elements false octets 0 from (so.pieces ++ p ∷ []) n next) (sym depth) (subst (λ n. Elements false octets 0 from (so.pieces ++ p ∷ []) (depth_behind (length groups) p.kind) n) (sym ends) all);
      nested = nested-more [] so.pieces groups p after so.nested f;
      within = omega (arith, ends, is.within);
    }
