-- Pieces of octets that are refused, and those of a frame that begins so.
use Rattle.std.proofs.Common.{◌≡◌, ◌<◌, ℕ, zero, suc, List, [], ◌∷◌, ◌++◌, length, take, get_or, arith, subst, sym, inl, inr}
use Rattle.std.specs.Prelude.{Bool, Option, None, Result, Ok, Err, OnOk, slice_get}
use Rattle.bac_tag.specs.declared.refusals.Refusal.{Refusal}
use Rattle.bac_tag.specs.Octets.{Extends}
use Rattle.bac_tag.specs.Spelling.{HasMark, IsLeast}
use Rattle.bac_npdu_parts.specs.Frames.{FrameValue, SpellsFrame}
use Rattle.bac_fields.specs.FrameFields.{placed_fields}
use Rattle.bac_explain.specs.declared.piece.Piece.{Piece}
use Rattle.bac_explain.specs.declared.verdict.Verdict.TheVariants.{Accepted, Refused}
use Rattle.bac_explain.specs.Completions.{AreBesideCompletion, IsRefusalExplanation, SameOctets}
use Rattle.bac_explain.specs.Explanations.{IsExplanation, IsFrameExplanation, IsNamedExplanation}
use Rattle.bac_field_parts.specs.declared.field.Field.{Field}
use Rattle.bac_explain.specs.Explained.{Explains}
use Rattle.bac_explain.specs.Hints.{IsHint}
use Rattle.bac_explain.specs.NamedLines.{AreNamedLines}
use Rattle.bac_explain.specs.Typed.{is_typed}

-- one more piece has the same octets
pub same_more : (count : ℕ) (ps qs : List Piece) (d e : Piece) → count < length ps → count < length qs → SameOctets count ps qs → (get_or ps count d).place ≡ (get_or qs count e).place → (get_or ps count d).length ≡ (get_or qs count e).length → SameOctets (suc count) ps qs
same_more zero [] qs d e some more same place length = absurd (omega (arith, some))
same_more zero (p ∷ ps) [] d e some more same place length = absurd (omega (arith, more))
same_more zero (p ∷ ps) (q ∷ qs) d e some more same place length = (place, length, tt)
same_more (suc count) [] qs d e some more same place length = absurd (omega (arith, some))
same_more (suc count) (p ∷ ps) [] d e some more same place length = absurd (omega (arith, more))
same_more (suc count) (p ∷ ps) (q ∷ qs) d e some more same place length =
    (same.0, same.1, same_more count ps qs d e (omega (arith, some)) (omega (arith, more)) same.2 place length)

-- the lines of octets that are refused, beside those of a frame that begins so
pub beside_completion : {E : Type 0} (r : Result Unit E) (octets : List ℕ) (refusal : Refusal) (whole : List ℕ) (f : FrameValue) (mark : Option ℕ) (canonical : List ℕ) (hint : List ℕ) (wholes others pieces : List Piece) (count : ℕ) (old new : List ℕ)
    → Extends (take refusal.place octets) whole → SpellsFrame f whole → Explains whole (Accepted mark (is_typed f.body)) wholes → IsLeast (SpellsFrame f) canonical → Explains canonical (Accepted None (is_typed f.body)) others → Explains octets (Refused refusal) pieces
    → SameOctets count pieces wholes → IsHint (placed_fields f) (slice_get others count) hint
    → OnOk r ((x : List ℕ) × (new ≡ old ++ x) × AreNamedLines octets canonical (placed_fields f) hint pieces (take count others) x) → OnOk r ((x : List ℕ) × (new ≡ old ++ x) × AreBesideCompletion octets refusal x)
beside_completion (Ok done) octets refusal whole f mark canonical hint wholes others pieces count old new begins spelled is_wholes least is_others is_pieces same is_hint told = (
  told.0,
  told.1,
  record {
    whole = whole;
    completion = record { frame = f; spelled = spelled; more = begins.0; begins = begins.1 };
    mark = mark;
    wholes = wholes;
    explains_whole = is_wholes;
    canonical = canonical;
    is_canonical = least;
    others = others;
    explains_others = is_others;
    pieces = pieces;
    explains = is_pieces;
    count = count;
    same = same;
    hint = hint;
    is_hint = is_hint;
    are_lines = told.2;
  },
)
beside_completion (Err fault) octets refusal whole f mark canonical hint wholes others pieces count old new begins spelled is_wholes least is_others is_pieces same is_hint told = tt

-- the same of what was read of slices
pub beside_frame : {E : Type 0} (r : Result Unit E) (octets : List ℕ) (refusal : Refusal) (whole : List ℕ) (f : FrameValue) (mark : Option ℕ) (typed : Bool) (canonical hint : List ℕ) (pieces wholes others : List Piece) (count : ℕ) (c1 : List ℕ) (p2 w3 o4 : List Piece) (f5 : List Field) (p7 : List Piece) (c8 : List ℕ)
    (f9 : List Field) (h10 : List ℕ) (beside : List Piece) (old new : List ℕ) → c1 ≡ canonical → p2 ≡ pieces → w3 ≡ wholes → o4 ≡ others → f5 ≡ placed_fields f → p7 ≡ pieces → c8 ≡ canonical → f9 ≡ placed_fields f → h10 ≡ hint → beside ≡ take count others → Extends (take refusal.place octets) whole
    → SpellsFrame f whole → typed ≡ is_typed f.body → IsLeast (SpellsFrame f) canonical → Explains octets (Refused refusal) pieces → Explains whole (Accepted mark typed) wholes → Explains c1 (Accepted None typed) others → SameOctets count p2 w3 → IsHint f5 (slice_get o4 count) hint
    → OnOk r ((x : List ℕ) × (new ≡ old ++ x) × AreNamedLines octets c8 f9 h10 p7 beside x) → OnOk r ((x : List ℕ) × (new ≡ old ++ x) × AreBesideCompletion octets refusal x)
beside_frame {E} (Ok done) octets refusal whole f mark typed canonical hint pieces wholes others count c1 p2 w3 o4 f5 p7 c8 f9 h10 beside old new e1 e2 e3 e4 e5 e7 e8 e9 e10 eb begins spelled et least is_pieces is_wholes is_others same is_hint told =
    let x = told.0 in
    let one = subst (λ (l : List Piece). AreNamedLines octets c8 f9 h10 p7 l x) eb told.2 in
    let two = subst (λ (l : List Piece). AreNamedLines octets c8 f9 h10 l (take count others) x) e7 one in
    let three = subst (λ (l : List ℕ). AreNamedLines octets c8 f9 l pieces (take count others) x) e10 two in
    let four = subst (λ (l : List Field). AreNamedLines octets c8 l hint pieces (take count others) x) e9 three in
    let lines = subst (λ (l : List ℕ). AreNamedLines octets l (placed_fields f) hint pieces (take count others) x) e8 four in
    beside_completion {E = E} (Ok done) octets refusal whole f mark canonical hint wholes others pieces count old new begins spelled (subst (λ (t : Bool). Explains whole (Accepted mark t) wholes) et is_wholes) least
    (subst (λ (t : Bool). Explains canonical (Accepted None t) others) et (subst (λ (l : List ℕ). Explains l (Accepted None typed) others) e1 is_others)) is_pieces (subst (λ (l : List Piece). SameOctets count l wholes) e2 (subst (λ (l : List Piece). SameOctets count p2 l) e3 same))
    (subst (λ (l : List Field). IsHint l (slice_get others count) hint) e5 (subst (λ (l : List Piece). IsHint f5 (slice_get l count) hint) e4 is_hint)) (x, told.1, lines)
beside_frame (Err fault) octets refusal whole f mark typed canonical hint pieces wholes others count c1 p2 w3 o4 f5 p7 c8 f9 h10 beside old new e1 e2 e3 e4 e5 e7 e8 e9 e10 eb begins spelled et least is_pieces is_wholes is_others same is_hint told = tt

-- octets without a mark are the canonical ones
pub unmarked_least : (f : FrameValue) (octets : List ℕ) (mark : Option ℕ) → mark ≡ None → HasMark (SpellsFrame f) octets mark → IsLeast (SpellsFrame f) octets
unmarked_least f octets mark e m = let n = rw e at m.is_mark in subst (IsLeast (SpellsFrame f)) (sym n) m.is_least

-- the lines of canonical octets, with the fields of their frame
pub canonical_told : {E : Type 0} (r : Result Unit E) (octets : List ℕ) (f : FrameValue) (typed : Bool) (fields : List Field) (old new : List ℕ) → IsLeast (SpellsFrame f) octets → typed ≡ is_typed f.body → fields ≡ placed_fields f
    → OnOk r ((x : List ℕ) × (new ≡ old ++ x) × IsNamedExplanation octets None typed octets fields x) → OnOk r ((x : List ℕ) × (new ≡ old ++ x) × IsFrameExplanation octets f None x)
canonical_told (Ok done) octets f typed fields old new least e is told =
    (told.0, told.1, (octets, least, subst (λ (t : Bool). IsNamedExplanation octets None t octets (placed_fields f) told.0) e (subst (λ (l : List Field). IsNamedExplanation octets None typed octets l told.0) is told.2)))
canonical_told (Err fault) octets f typed fields old new least e is told = tt

-- lines beside those of a frame that begins so explain a refusal
pub beside_told : {E : Type 0} (r : Result Unit E) (octets : List ℕ) (refusal : Refusal) (old new : List ℕ) → OnOk r ((x : List ℕ) × (new ≡ old ++ x) × AreBesideCompletion octets refusal x) → OnOk r ((x : List ℕ) × (new ≡ old ++ x) × IsRefusalExplanation octets refusal x)
beside_told (Ok done) octets refusal old new told = (told.0, told.1, inl told.2)
beside_told (Err fault) octets refusal old new told = tt

-- so do lines without names
pub alone_told : {E : Type 0} (r : Result Unit E) (octets : List ℕ) (refusal : Refusal) (old new : List ℕ) → OnOk r ((x : List ℕ) × (new ≡ old ++ x) × IsExplanation octets (Refused refusal) x) → OnOk r ((x : List ℕ) × (new ≡ old ++ x) × IsRefusalExplanation octets refusal x)
alone_told (Ok done) octets refusal old new told = (told.0, told.1, inr told.2)
alone_told (Err fault) octets refusal old new told = tt
