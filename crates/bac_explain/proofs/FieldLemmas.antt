-- Lemmas on the pieces of fields.
use Rattle.std.proofs.Common.{◌≡◌, ◌<◌, ℕ, ◌+◌, List, [], ◌∷◌, ◌++◌, length, take, drop, ap, arith, length-append}
use Rattle.std.proofs.lemmas.List.{length-take, length-drop}
use Rattle.bac_field_parts.specs.Fields.{Step, next, aside, pass, placed, size_of}
use Rattle.bac_fields.specs.Places.{AreAt}
use Rattle.bac_explain.specs.declared.piece.Piece.{Piece}
use Rattle.bac_explain.specs.FieldPieces.{HaveOnePiece}
use Rattle.bac_explain.specs.Tiles.{Tiles}
use Rattle.bac_explain.proofs.TileLemmas.{covered-once}

-- Octets that are there begin before the end.
inside : (octets head contents : List ℕ) (place : ℕ) → take (length head + length contents) (drop place octets) ≡ head ++ contents → 0 < length head + length contents → place < length octets
inside octets head contents place e some =
    let n = length head + length contents in
    omega (arith, ap length e, length-append head contents, length-take n (drop place octets), length-drop place octets)

-- Each field with octets begins in exactly one piece.
pub fields-once : (octets : List ℕ) (pieces : List Piece) → Tiles 0 pieces (length octets) → (place : ℕ) (steps : List Step) → AreAt octets place steps → HaveOnePiece pieces (placed place steps)
fields-once octets pieces tiles place [] at = tt
fields-once octets pieces tiles place (next v ∷ steps) at =
    (λ some. covered-once place 0 pieces (length octets) tiles (omega arith) (inside octets v.head v.contents place at.0 some), fields-once octets pieces tiles (place + size_of v) steps at.1)
fields-once octets pieces tiles place (aside n name number ∷ steps) at =
    (λ some. covered-once (place + n) 0 pieces (length octets) tiles (omega arith) at.1, fields-once octets pieces tiles place steps at.3)
fields-once octets pieces tiles place (pass n ∷ steps) at = fields-once octets pieces tiles (place + n) steps at
