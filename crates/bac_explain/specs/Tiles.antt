-- Pieces that cover octets.
use Rattle.std.specs.Prelude.{◌≡◌, ℕ, ◌+◌, Bool, ◌&&◌, nat_le, nat_lt, List, [], ◌∷◌, ◌++◌, take, drop}
use Rattle.bac_explain.specs.declared.piece.Piece.{Piece}

-- The pieces cover the octets from one place up to another: in order, without a gap, and each octet once.
abbrev pub Tiles : ℕ → List Piece → ℕ → Type 0
Tiles from [] to = to ≡ from
Tiles from (p ∷ ps) to = (p.place ≡ from) × Tiles (from + p.length) ps to

-- The octets of a piece.
abbrev pub octets_of : List ℕ → Piece → List ℕ
octets_of octets p = take p.length (drop p.place octets)

-- The octets of pieces, joined.
abbrev pub joined : List ℕ → List Piece → List ℕ
joined octets [] = []
joined octets (p ∷ ps) = octets_of octets p ++ joined octets ps

-- Whether the octet at a place is one of the piece.
abbrev pub covers : ℕ → Piece → Bool
covers place p = nat_le p.place place && nat_lt place (p.place + p.length)
