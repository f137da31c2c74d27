-- Parts of a frame, laid out one after the other.
use Rattle.std.specs.Prelude.{ℕ, ◌+◌, ◌-◌, min, nat_eq, if◌then◌else◌, List, [], ◌∷◌, ◌++◌}
use Rattle.bac_explain.specs.declared.piece.Piece.{Piece}
use Rattle.bac_explain.specs.declared.piece.Kind.{Kind}
use Rattle.bac_explain.specs.declared.parts.Part.{Part}

-- A part of this kind, with so many octets.
abbrev pub part : Kind → ℕ → Part
part kind size = record { kind = kind; size = size }

-- A piece without a tag head.
abbrev pub plain : Kind → ℕ → ℕ → Piece
plain kind place length = record { place = place; length = length; head = 0; depth = 0; kind = kind }

-- How many octets a part has from a place on, if the octets end at end.
abbrev pub part_length : ℕ → ℕ → Part → ℕ
part_length end place p = min p.size (end - place)

-- Where a part ends that begins at a place, if the octets end at end.
abbrev pub part_end : ℕ → ℕ → Part → ℕ
part_end end place p = place + part_length end place p

-- The piece of a part that begins at a place, if the octets end at end. A part without an octet has none.
abbrev pub part_pieces : ℕ → ℕ → Part → List Piece
part_pieces end place p = if nat_eq (part_length end place p) 0 then [] else plain p.kind place (part_length end place p) ∷ []

-- The pieces of parts, one after the other from a place on, if the octets end at end.
abbrev pub laid : ℕ → ℕ → List Part → List Piece
laid end place [] = []
laid end place (p ∷ ps) = part_pieces end place p ++ laid end (part_end end place p) ps

-- Where they end.
abbrev pub laid_end : ℕ → ℕ → List Part → ℕ
laid_end end place [] = place
laid_end end place (p ∷ ps) = laid_end end (part_end end place p) ps
