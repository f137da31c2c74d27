-- The lines of the pieces of a frame, with the names of its fields.
use Rattle.std.specs.Prelude.{◌≡◌, ◌⊎◌, ℕ, ◌+◌, ◌-◌, Bool, true, false, ◌&&◌, nat_lt, Option, None, Some, List, [], ◌∷◌, ◌++◌, drop, length, codes, slice_get}
use Rattle.bac_field_parts.specs.declared.field.Field.{Field}
use Rattle.bac_explain.specs.declared.label.Label.{Label}
use Rattle.bac_explain.specs.declared.piece.Kind.{Kind}
use Rattle.bac_explain.specs.declared.piece.Kind.TheVariants as kind
use Rattle.bac_explain.specs.declared.piece.Piece.{Piece}
use Rattle.bac_explain.specs.Labels.{Either, IsLabel, IsNamed, ahead, within}
use Rattle.bac_explain.specs.Lines.{front_text, piece_lines}
use Rattle.bac_explain.specs.Parts.{plain}
use Rattle.bac_explain.specs.Tiles.{octets_of}
use Rattle.bac_explain.specs.Words.{IsSaid}

-- What is said of the canonical octets of a piece beside its own: nothing if they are the same.
abbrev pub IsNote : List ℕ → Piece → List ℕ → List ℕ → Type 0
IsNote own q canonical text = ((own ≡ canonical) × (text ≡ [])) ⊎ ((own ≡ canonical → ⊥) × (text ≡ codes "  ~ " ++ front_text q canonical))

-- What is said of a piece with these octets, beside the piece of the canonical octets: its words, with the label of that piece, and
-- the canonical octets.
abbrev pub IsSaidBeside : List Field → Piece → List ℕ → Piece → List ℕ → List ℕ → Type 0
IsSaidBeside fields p own q canonical text =
    (label : Option Label) × IsLabel (within q fields) q label
    × ((said : List ℕ) × IsNamed label p own said × ((note : List ℕ) × IsNote own q canonical note × (text ≡ said ++ note)))

-- They are the lines of a piece, beside one of the canonical octets.
abbrev pub AreLinesBeside : List ℕ → List ℕ → List Field → Piece → Piece → List ℕ → Type 0
AreLinesBeside octets canonical fields p q lines =
    (said : List ℕ) × IsSaidBeside fields p (octets_of octets p) q (octets_of canonical q) said × (lines ≡ piece_lines p (octets_of octets p) said)

-- The data from one place up to another, as a piece.
abbrev pub data_part : ℕ → ℕ → Piece
data_part from to = plain kind.Data from (to - from)

-- A field begins between two places.
abbrev pub begins_between : ℕ → ℕ → Field → Bool
begins_between from to f = nat_lt from f.place && nat_lt f.place to

-- They are the lines of the data from one place up to another, cut where these fields begin. A part has its label from the fields
-- that are ahead of it.
abbrev pub AreDataLines : List ℕ → List ℕ → List Field → ℕ → ℕ → List Field → List ℕ → Type 0
AreDataLines octets canonical left from to [] lines = AreLinesBeside octets canonical left (data_part from to) (data_part from to) lines
AreDataLines octets canonical left from to (f ∷ fs) lines =
    Either (begins_between from to f)
    ((first : List ℕ) × AreLinesBeside octets canonical left (data_part from f.place) (data_part from f.place) first
    × ((rest : List ℕ) × AreDataLines octets canonical (f ∷ fs) f.place to fs rest × (lines ≡ first ++ rest)))
    (AreDataLines octets canonical left from to fs lines)

-- Whether a kind is the data of a network message.
abbrev pub is_data : Kind → Bool
is_data kind.Data = true
is_data _ = false

-- They are the lines of a piece that is beside one of the canonical octets. The data of a network message has no other spelling,
-- so it is cut where its fields begin.
abbrev pub ArePieceLines : List ℕ → List ℕ → List Field → Piece → Piece → List ℕ → Type 0
ArePieceLines octets canonical fields p q lines =
    Either (is_data p.kind) (AreDataLines octets canonical fields p.place (p.place + length (octets_of octets p)) fields lines) (AreLinesBeside octets canonical fields p q lines)

-- What is said after the words of a piece: at a refusal, what else can be there.
abbrev pub hint_for : Kind → List ℕ → List ℕ
hint_for (kind.Refused reason) hint = hint
hint_for k hint = []

-- What is said of a piece that is beside none: its words, and the hint at a refusal.
abbrev pub IsSaidWith : List ℕ → Piece → List ℕ → List ℕ → Type 0
IsSaidWith hint p own text = (said : List ℕ) × IsSaid p own said × (text ≡ said ++ hint_for p.kind hint)

-- They are the lines of a piece, beside one of the canonical octets if there is one.
abbrev pub AreLinesOf : List ℕ → List ℕ → List Field → List ℕ → Piece → Option Piece → List ℕ → Type 0
AreLinesOf octets canonical fields hint p None lines =
    (said : List ℕ) × IsSaidWith hint p (octets_of octets p) said × (lines ≡ piece_lines p (octets_of octets p) said)
AreLinesOf octets canonical fields hint p (Some q) lines = ArePieceLines octets canonical fields p q lines

-- The fields from the first one on that does not begin before the first of these pieces.
abbrev pub left_for : List Piece → List Field → List Field
left_for [] fields = fields
left_for (q ∷ qs) fields = ahead q fields

-- They are the lines of pieces, in order, each beside the one with its index of the canonical octets. The fields are gone through
-- along with these.
abbrev pub AreNamedLines : List ℕ → List ℕ → List Field → List ℕ → List Piece → List Piece → List ℕ → Type 0
AreNamedLines octets canonical fields hint [] qs lines = lines ≡ []
AreNamedLines octets canonical fields hint (p ∷ ps) qs lines =
    (first : List ℕ) × AreLinesOf octets canonical (left_for qs fields) hint p (slice_get qs 0) first
    × ((rest : List ℕ) × AreNamedLines octets canonical (left_for qs fields) hint ps (drop 1 qs) rest × (lines ≡ first ++ rest))
