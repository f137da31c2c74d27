-- The pieces at the place of a refusal and after it.
use Rattle.std.specs.Prelude.{ℕ, ◌+◌, ◌-◌, min, List, ◌∷◌}
use Rattle.bac_tag.specs.declared.refusals.Refusal.{Refusal}
use Rattle.bac_explain.specs.declared.piece.Piece.{Piece}
use Rattle.bac_explain.specs.declared.piece.Kind.TheVariants as kind
use Rattle.bac_explain.specs.Parts.{part, part_pieces, plain}

-- The piece at the place of a refusal, of octets that end at end. It has the octet there, or none if they end there.
abbrev pub arrow : ℕ → Refusal → Piece
arrow end r = plain (kind.Refused r.why) r.place (min 1 (end - r.place))

-- The octets after the place of a refusal, as one piece if there are some.
abbrev pub rest_pieces : ℕ → Refusal → List Piece
rest_pieces end r = part_pieces end (r.place + (arrow end r).length) (part kind.Rest (end - (r.place + (arrow end r).length)))

-- The pieces from the place of a refusal on.
abbrev pub refusal_pieces : ℕ → Refusal → List Piece
refusal_pieces end r = arrow end r ∷ rest_pieces end r
