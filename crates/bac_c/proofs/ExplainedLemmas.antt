-- What C gets of the pieces of octets.
use Rattle.std.proofs.Common.{◌≡◌, ◌≤◌, ℕ, min, List, ◌++◌, length, take, drop, sym, ap, ap₂, ◌∙◌, inl, inr, arith}
use Rattle.std.proofs.Math.Seq.{take-append_seam}
use Rattle.std.proofs.lemmas.Bool.{cases_lt}
use Rattle.std.proofs.lemmas.List.{take_all}
use Rattle.bac_explain.specs.declared.piece.Piece.{Piece}
use Rattle.bac_explain.specs.Explained.{IsWritten}
use Rattle.bac_explain.proofs.RoomLemmas.{with_pieces-first}

-- Of a list with at most n items the first ones, if n or more are wanted.
take-min : (most n : ℕ) (ps : List Piece) → length ps ≤ n → take (min most n) ps ≡ take most ps
take-min most n ps le = elim (cases_lt n most) [
  | inl more ↦ take_all (min most n) ps (omega (arith, more, le)) ∙ sym (take_all most ps (omega (arith, more, le)))
  | inr few ↦ let all : min most n ≡ most = omega (arith, few) in ap (λ k. take k ps) all
]

-- What was put into a room for the first pieces.
pub first_pieces : (old new items pieces : List Piece) (count most n : ℕ) → IsWritten pieces old new count → length old ≡ min most n → count ≤ n → items ≡ take count new → items ≡ take most pieces
first_pieces old new items pieces count most n written size few is =
    is ∙ ap₂ (λ (k : ℕ) (room : List Piece). take k room) written.counted written.fitting ∙ with_pieces-first old pieces
    ∙ ap (λ k. take k pieces) size ∙ take-min most n pieces (omega (arith, few, written.counted))

-- A room that was lent is all of the list that lent it.
pub written_back : (room items : List Piece) (len : ℕ) → length room ≡ len → take len (room ++ drop (length room) items) ≡ room
written_back room items len size = ap (λ n. take n (room ++ drop (length room) items)) (sym size) ∙ take-append_seam room (drop (length room) items)
