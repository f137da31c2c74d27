-- A room for pieces, and what is written into it.
use Rattle.std.specs.Prelude.{◌≡◌, ℕ, ◌+◌, List, [], ◌∷◌, length, nat_lt, if◌then◌else◌, slice_set}
use Rattle.bac_explain.specs.declared.piece.Piece.{Piece}

-- The room with a piece at an index, if it is long enough, and otherwise as it is.
abbrev pub with_piece : List Piece → ℕ → Piece → List Piece
with_piece room at piece = if nat_lt at (length room) then slice_set room at piece else room

-- The room with these pieces from an index on, as far as it is long enough.
abbrev pub with_pieces : List Piece → ℕ → List Piece → List Piece
with_pieces room at [] = room
with_pieces room at (piece ∷ pieces) = with_pieces (with_piece room at piece) (at + 1) pieces

-- After so many pieces these were put, as far as the room is long enough, and all of them counted.
pub record Puts (pieces old : List Piece) (from : ℕ) (new : List Piece) (to : ℕ) : Type 0 where
  pub room : new ≡ with_pieces old from pieces
  pub count : to ≡ from + length pieces
