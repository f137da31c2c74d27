-- The names of pieces.
use Rattle.std.proofs.Common.{◌≡◌, ◌+◌, true, false, List, [], ◌∷◌, length, refl, ap, arith}
use Rattle.std.specs.Prelude.{nat_lt, Option, None, Some}
use Rattle.bac_field_parts.specs.declared.field.Field.{Field}
use Rattle.bac_field_parts.specs.Names.{number_of}
use Rattle.bac_explain.specs.declared.label.Label.{Label}
use Rattle.bac_explain.specs.declared.piece.Piece.{Piece}
use Rattle.bac_explain.specs.FieldPieces.{BeginsIn}
use Rattle.bac_explain.specs.Labels.{IsElsewhere, IsLabel, ahead, within}

-- a field before a piece is passed over
pub ahead_more : (p : Piece) (f : Field) (fs : List Field) → nat_lt f.place p.place ≡ true → ahead p (f ∷ fs) ≡ ahead p fs
ahead_more p f fs before = rw before refl

-- a field that is not before it is not
pub ahead_first : (p : Piece) (f : Field) (fs : List Field) → nat_lt f.place p.place ≡ false → ahead p (f ∷ fs) ≡ f ∷ fs
ahead_first p f fs behind = rw behind refl

-- a label of the rest is one of all
pub Finds : Piece → List Field → List Field → Type 0
Finds p all rest = (label : Option Label) → IsLabel (within p rest) p label → IsLabel (within p all) p label

pub finds_all : (p : Piece) (all : List Field) → Finds p all all
unfolding Finds
finds_all p all label is = is

-- a label of the fields after one that is elsewhere
elsewhere : (p : Piece) (f : Field) (fs : List Field) (label : Option Label) → IsElsewhere p f → IsLabel fs p label → IsLabel (f ∷ fs) p label
elsewhere p f fs None other is = (other, is)
elsewhere p f fs (Some label) other is = record {
  field = is.field;
  before = f ∷ is.before;
  after = is.after;
  among = ap (λ l. f ∷ l) is.among;
  begins = is.begins;
  named = is.named;
  numbered = is.numbered;
}

-- one more field is elsewhere
pub finds_more : (p : Piece) (all : List Field) (f : Field) (fs : List Field) → nat_lt f.place (p.place + p.length) ≡ true → IsElsewhere p f → Finds p all (f ∷ fs) → Finds p all fs
unfolding Finds
finds_more p all f fs near other finds label is = finds label (rw near (elsewhere p f (within p fs) label other is))

-- the next field is after the piece
pub finds_none : (p : Piece) (all : List Field) (f : Field) (fs : List Field) → nat_lt f.place (p.place + p.length) ≡ false → Finds p all (f ∷ fs) → IsLabel (within p all) p None
unfolding Finds
finds_none p all f fs far finds = finds None (rw far tt)

-- no field is left
pub finds_last : (p : Piece) (all rest : List Field) → length rest ≡ 0 → Finds p all rest → IsLabel (within p all) p None
unfolding Finds
finds_last p all [] none finds = finds None tt
finds_last p all (f ∷ fs) none finds = absurd (omega (arith, none))

-- the next field is the one
pub finds_this : (p : Piece) (all : List Field) (f : Field) (fs : List Field) (label : Label) → nat_lt f.place (p.place + p.length) ≡ true → BeginsIn f p → f.name ≡ number_of label.name → f.number ≡ label.number → Finds p all (f ∷ fs) → IsLabel (within p all) p (Some label)
unfolding Finds
finds_this p all f fs label near begins named numbered finds = finds (Some label) (rw near (record {
  field = f;
  before = [];
  after = within p fs;
  among = refl;
  begins = begins;
  named = named;
  numbered = numbered;
}))
