-- Which fields of a frame a piece has.
use Rattle.std.specs.Prelude.{◌+◌, ◌<◌, ◌≤◌, ◌≡◌, filter, List, [], ◌∷◌}
use Rattle.std.specs.List.{AllByRecursion}
use Rattle.bac_field_parts.specs.declared.field.Field.{Field}
use Rattle.bac_explain.specs.declared.piece.Piece.{Piece}
use Rattle.bac_explain.specs.Tiles.{covers}

-- A field has octets.
abbrev pub HasOctets : Field → Type 0
HasOctets f = 0 < f.head + f.length

-- A field has octets, and they begin in the piece.
pub record BeginsIn (f : Field) (p : Piece) : Type 0 where
  pub some : HasOctets f
  pub after : p.place ≤ f.place
  pub before : f.place < p.place + p.length

-- Of each field with octets exactly one of the pieces covers the first octet.
abbrev pub HaveOnePiece : List Piece → List Field → Type 0
HaveOnePiece pieces fields = AllByRecursion (λ f. HasOctets f → (p : Piece) × (filter (covers f.place) pieces ≡ p ∷ [])) fields
