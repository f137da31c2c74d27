-- The lines of pieces, one after another.
use Rattle.std.proofs.Common.{◌≡◌, ℕ, ◌+◌, ◌-◌, ◌*◌, ◌/◌, ◌%◌, ◌≤◌, List, [], ◌∷◌, ◌++◌, length, refl, sym, ap, ◌∙◌, append_assoc, add-one, replicate, take, get_or, subst, ◌<◌, eqb, true, false, arith, inl, inr}
use Rattle.std.proofs.lemmas.List.{append-nil, length-append, length-take-le, replicate-append-replicate, replicate_more, take-replicate, take-take, take_more, take_more_set}
use Rattle.std.proofs.Math.ListN.{set}
use Rattle.std.proofs.Math.Seq.{take-append-add}
use Rattle.std.specs.Prelude.{Bool, Option, None, Result, Ok, Err, IfOk, OnOk, OnErr, codes, drop, slice_get}
use Rattle.std.specs.Cmp.Lexicographic.{pointwise, bytes_decides}
use Rattle.std.specs.Fmt.{decimal}
use Rattle.bac_value.specs.declared.prim.PrimitiveValue.{PrimitiveValue}
use Rattle.bac_text.specs.PrimitiveText.{primitive_text}
use Rattle.std.proofs.lemmas.Bool.{le-ltb, lt-ltb}
use Rattle.bac_record.proofs.DigitLemmas.{one_digit, two_digits}
use Rattle.bac_record.specs.Digits.{hexadecimal}
use Rattle.bac_tag.specs.Octets.{Extends}
use Rattle.bac_tag.specs.declared.heads.TagHead.{TagHead}
use Rattle.bac_explain.specs.declared.piece.Piece.{Piece}
use Rattle.bac_explain.specs.Lines.{AreLines, blanks, column, front_text, further_line, further_lines, gap, margin, parted, piece_lines, place_text}
use Rattle.bac_field_parts.specs.declared.field.Field.{Field}
use Rattle.bac_explain.specs.declared.label.Label.{Label}
use Rattle.bac_explain.specs.Labels.{Either, IsLabel, IsNamed, within}
use Rattle.bac_explain.specs.NamedLines.{AreDataLines, AreLinesBeside, AreLinesOf, AreNamedLines, ArePieceLines, IsNote, IsSaidBeside, IsSaidWith, begins_between, data_part, hint_for, is_data, left_for}
use Rattle.bac_explain.specs.declared.verdict.Verdict.{Verdict}
use Rattle.bac_explain.specs.declared.verdict.Verdict.TheVariants.{Accepted}
use Rattle.bac_explain.specs.Explained.{Explains}
use Rattle.bac_explain.specs.Explanations.{IsExplanation, IsNamedExplanation}
use Rattle.bac_explain.specs.Tiles.{octets_of}
use Rattle.bac_explain.specs.Words.{IsValue, IsSaid, IsSaidOfTag, IsSaidOfValue, IsSaidUnjudged, contents_words}

-- two texts, one after the other
pub appended : (old mid new a b : List ℕ) → mid ≡ old ++ a → new ≡ mid ++ b → new ≡ old ++ (a ++ b)
appended old mid new a b q r = r ∙ ap (λ l. l ++ b) q ∙ append_assoc old a b

-- a value was appended
pub said_value : {E : Type 0} (number len : ℕ) (contents old new : List ℕ) (r : Result ℕ E) (prim : PrimitiveValue) (is : IsValue number len contents) → prim ≡ is.2.value → IfOk r (λ end. take end new ≡ old ++ primitive_text prim) → IfOk r (λ end. (said : List ℕ) × (take end new ≡ old ++ said) × IsSaidOfValue number len contents said)
said_value number len contents old new (Ok end) prim is e q = (primitive_text prim, q, inl (is, ap primitive_text e))
said_value number len contents old new (Err fault) prim is e q = tt

-- the contents were appended as they are
pub said_type : {E : Type 0} (number len : ℕ) (contents old new : List ℕ) (r : Result ℕ E) → (IsValue number len contents → ⊥) → IfOk r (λ end. take end new ≡ old ++ ((codes "type " ++ decimal number) ++ contents_words len contents)) → IfOk r (λ end. (said : List ℕ) × (take end new ≡ old ++ said) × IsSaidOfValue number len contents said)
said_type number len contents old new (Ok end) none q = ((codes "type " ++ decimal number) ++ contents_words len contents, q, inr (none, refl))
said_type number len contents old new (Err fault) none q = tt

-- what is said of a tag, and that it is not judged
pub said_unjudged : {E : Type 0} (r : Result ℕ E) (head : TagHead) (contents old mid new said : List ℕ) → mid ≡ old ++ said → IsSaidOfTag head contents said → IfOk r (λ end. take end new ≡ mid ++ codes " (not judged)") → IfOk r (λ end. (x : List ℕ) × (take end new ≡ old ++ x) × IsSaidUnjudged head contents x)
said_unjudged (Ok end) head contents old mid new said q is r =
    (said ++ codes " (not judged)", appended old mid (take end new) said (codes " (not judged)") q r, (said, is, refl))
said_unjudged (Err fault) head contents old mid new said q is r = tt

-- one more line of the octets of a piece
pub further_more : (p : Piece) (own old mid new : List ℕ) (k : ℕ) → mid ≡ old ++ further_lines p own k → new ≡ mid ++ further_line p own (k + 1) → new ≡ old ++ further_lines p own (k + 1)
further_more p own old mid new k q r =
    appended old mid new (further_lines p own k) (further_line p own (k + 1)) q r
    ∙ ap (λ n. old ++ (further_lines p own k ++ further_line p own n)) (add-one k)
    ∙ sym (ap (λ n. old ++ further_lines p own n) (add-one k))

-- lines so far, and what came of a call that was refused memory
pub refused_after : {A E : Type 0} (r : Result A E) (old mid new text : List ℕ) → mid ≡ old ++ text → Extends mid new → OnErr r (Extends old new)
refused_after (Ok end) old mid new text q x = tt
refused_after (Err fault) old mid new text q x = (text ++ x.0, x.1 ∙ ap (λ l. l ++ x.0) q ∙ append_assoc old text x.0)

-- the last of two texts, where the result of its call is handed on
pub written_last : {E : Type 0} (r : Result ℕ E) (old mid new a b : List ℕ) → mid ≡ old ++ a → IfOk r (λ end. take end new ≡ mid ++ b) → IfOk r (λ end. take end new ≡ old ++ (a ++ b))
written_last (Ok end) old mid new a b q r = appended old mid (take end new) a b q r
written_last (Err fault) old mid new a b q r = tt

-- the first of many blanks
pub first_blanks : (at count end : ℕ) (old new : List ℕ) → at ≤ length old → count ≤ 32 → end ≡ at + 32 → take end new ≡ take at old ++ replicate 32 32 → take (at + count) new ≡ take at old ++ replicate count 32
first_blanks at count end old new inside few is q =
    let len : length (take at old) ≡ at = length-take-le at old inside in
    sym (take-take (at + count) end new (omega (arith, few, is)))
    ∙ ap (take (at + count)) q
    ∙ ap (λ n. take (n + count) (take at old ++ replicate 32 32)) (sym len)
    ∙ take-append-add (take at old) (replicate 32 32) count
    ∙ ap (λ l. take at old ++ l) (take-replicate count 32 32 few)

-- one more blank
pub blanks_step : (at n : ℕ) (old room : List ℕ) → at + n < length room → take (at + n) room ≡ old ++ replicate n 32 → take (at + (n + 1)) (set room (at + n) 32) ≡ old ++ replicate (n + 1) 32
blanks_step at n old room inside p =
    let behind : at + (n + 1) ≡ at + n + 1 = omega arith in
    ap (λ k. take k (set room (at + n) 32)) behind
    ∙ take_more_set room (at + n) 32 inside
    ∙ ap (λ l. l ++ 32 ∷ []) p
    ∙ append_assoc old (replicate n 32) (32 ∷ [])
    ∙ ap (λ l. old ++ l) (replicate_more n 32)

-- blanks of a column and of few groups
pub near_blanks : (old new : List ℕ) (n a d : ℕ) → n ≡ a + 2 + 2 * d → new ≡ old ++ replicate n 32 → new ≡ old ++ (blanks a ++ (codes "  " ++ blanks (2 * d)))
near_blanks old new n a d is p =
    let same : n ≡ a + (2 + 2 * d) = omega (arith, is) in
    let right : blanks a ++ (codes "  " ++ blanks (2 * d)) ≡ replicate (a + (2 + 2 * d)) 32 = ap (λ l. blanks a ++ l) (replicate-append-replicate 2 (2 * d) 32) ∙ replicate-append-replicate a (2 + 2 * d) 32 in
    p ∙ ap (λ l. old ++ l) (ap (λ k. replicate k 32) same ∙ sym right)

-- blanks of a column and of many groups
pub far_blanks : {E : Type 0} (r : Result ℕ E) (old one two new : List ℕ) (n a d : ℕ) → n ≡ a + 2 → one ≡ old ++ replicate n 32 → two ≡ one ++ replicate d 32 → IfOk r (λ end. take end new ≡ two ++ replicate d 32)
    → IfOk r (λ end. take end new ≡ old ++ (blanks a ++ (codes "  " ++ blanks (2 * d))))
far_blanks (Ok end) old one two new n a d is p q r =
    let same : n + d + d ≡ a + (2 + 2 * d) = omega (arith, is) in
    let left : (replicate n 32 ++ replicate d 32) ++ replicate d 32 ≡ replicate (n + d + d) 32 = ap (λ l. l ++ replicate d 32) (replicate-append-replicate n d 32) ∙ replicate-append-replicate (n + d) d 32 in
    let right : blanks a ++ (codes "  " ++ blanks (2 * d)) ≡ replicate (a + (2 + 2 * d)) 32 = ap (λ l. blanks a ++ l) (replicate-append-replicate 2 (2 * d) 32) ∙ replicate-append-replicate a (2 + 2 * d) 32 in
    appended old two (take end new) (replicate n 32 ++ replicate d 32) (replicate d 32) (appended old one two (replicate n 32) (replicate d 32) p q) r
    ∙ ap (λ l. old ++ l) (left ∙ ap (λ k. replicate k 32) same ∙ sym right)
far_blanks (Err fault) old one two new n a d is p q r = tt

-- the blanks before an offset of one digit, and of two
margin_one : (n : ℕ) → n < 10 → margin n ≡ codes "   "
margin_one n few = rw (lt-ltb n 10 few) refl

margin_two : (n : ℕ) → 10 ≤ n → n < 100 → margin n ≡ codes "  "
margin_two n ten few = rw (le-ltb n 10 ten, lt-ltb n 100 few) refl

-- an offset of one digit, and of two
pub place_one : (n d : ℕ) → n < 10 → d ≡ 48 + n → 32 ∷ 32 ∷ 32 ∷ d ∷ 32 ∷ 32 ∷ [] ≡ place_text n
place_one n d few p =
    ap (λ (l : List ℕ). 32 ∷ 32 ∷ 32 ∷ (l ++ codes "  ")) (one_digit n d few p)
    ∙ sym (ap (λ (m : List ℕ). m ++ (decimal n ++ codes "  ")) (margin_one n few))

pub place_two : (n a b : ℕ) → 10 ≤ n → n < 100 → a ≡ 48 + n / 10 → b ≡ 48 + n % 10 → 32 ∷ 32 ∷ a ∷ b ∷ 32 ∷ 32 ∷ [] ≡ place_text n
place_two n a b ten few p q =
    ap (λ (l : List ℕ). 32 ∷ 32 ∷ (l ++ codes "  ")) (two_digits n a b ten few p q)
    ∙ sym (ap (λ (m : List ℕ). m ++ (decimal n ++ codes "  ")) (margin_two n ten few))

-- each octet has two digits
digits_length : (octets : List ℕ) → length (hexadecimal octets) ≡ 2 * length octets
digits_length [] = refl
digits_length (octet ∷ octets) = omega (arith, digits_length octets)

-- how long a tag head and its contents are as digits
pub parted_length : (head contents : List ℕ) (at head_end start end : ℕ) → head_end ≡ at + 2 * length head → start ≡ head_end + length (gap head contents) → end ≡ start + 2 * length contents → end ≡ at + length (parted head contents)
parted_length head contents at head_end start end e f g =
    let two = length-append (gap head contents) (hexadecimal contents) in
    omega (arith, e, f, g, digits_length head, digits_length contents, two, length-append (hexadecimal head) (gap head contents ++ hexadecimal contents))

-- the words of a piece, and what is after them
pub said_piece : {E : Type 0} (P : List ℕ → Type 0) (r : Result ℕ E) (p : Piece) (own old one two new said : List ℕ) → one ≡ old ++ (place_text p.place ++ (column (front_text p own) ++ blanks (2 * p.depth))) → two ≡ one ++ said → P said
    → IfOk r (λ end. take end new ≡ two ++ (codes "\n" ++ further_lines p own ((length own - 1) / 8))) → IfOk r (λ end. (x : List ℕ) × P x × (take end new ≡ old ++ piece_lines p own x))
said_piece P (Ok done) p own old one two new said q x is r =
    let place = place_text p.place in
    let octets = column (front_text p own) in
    let indent = blanks (2 * p.depth) in
    let end = codes "\n" in
    let rest = further_lines p own ((length own - 1) / 8) in
    let whole = appended old two (take done new) ((place ++ (octets ++ indent)) ++ said) (end ++ rest) (appended old one two (place ++ (octets ++ indent)) said q x) r in
    let moved : ((place ++ (octets ++ indent)) ++ said) ++ (end ++ rest) ≡ (place ++ (octets ++ (indent ++ (said ++ end)))) ++ rest =
    sym (append_assoc ((place ++ (octets ++ indent)) ++ said) end rest)
    ∙ ap (λ l. l ++ rest) (append_assoc (place ++ (octets ++ indent)) said end ∙ append_assoc place (octets ++ indent) (said ++ end) ∙ ap (λ l. place ++ l) (append_assoc octets indent (said ++ end))) in
    (said, is, whole ∙ ap (λ l. old ++ l) moved)
said_piece P (Err fault) p own old one two new said q x is r = tt

-- an extension of an extension
pub extended : (old mid new : List ℕ) → Extends old mid → Extends mid new → Extends old new
extended old mid new x y = (x.0 ++ y.0, y.1 ∙ ap (λ l. l ++ y.0) x.1 ∙ append_assoc old x.0 y.0)

-- what is refused after a text
pub refused_last : {A E : Type 0} (r : Result A E) (old mid new : List ℕ) → Extends old mid → OnErr r (Extends mid new) → OnErr r (Extends old new)
refused_last (Ok end) old mid new x y = tt
refused_last (Err fault) old mid new x y = extended old mid new x y

-- the lines of one more piece
pub lines_more : (octets : List ℕ) (ps : List Piece) (p : Piece) (lines said : List ℕ) → AreLines octets ps lines → IsSaid p (octets_of octets p) said → AreLines octets (ps ++ p ∷ []) (lines ++ piece_lines p (octets_of octets p) said)
lines_more octets [] p lines said is says = (said, says, ([], refl, ap (λ l. l ++ piece_lines p (octets_of octets p) said) is ∙ sym (append-nil (piece_lines p (octets_of octets p) said))))
lines_more octets (x ∷ xs) p lines said is says =
    let more = piece_lines p (octets_of octets p) said in
    let first = piece_lines x (octets_of octets x) is.0 in
    (is.0, is.1, (is.2.0 ++ more, lines_more octets xs p is.2.0 said is.2.1 says, ap (λ l. l ++ more) is.2.2 ∙ append_assoc first is.2.0 more))

-- the lines so far, after one more turn
pub lines_step : (octets : List ℕ) (ps : List Piece) (i : ℕ) (d : Piece) (own old mid new lines : List ℕ) → i < length ps → own ≡ octets_of octets (get_or ps i d) → mid ≡ old ++ lines → AreLines octets (take i ps) lines
    → (said : List ℕ) × IsSaid (get_or ps i d) own said × (new ≡ mid ++ piece_lines (get_or ps i d) own said) → (x : List ℕ) × (new ≡ old ++ x) × AreLines octets (take (i + 1) ps) x
lines_step octets ps i d own old mid new lines below is q are said =
    let p = get_or ps i d in
    let more = piece_lines p own said.0 in (
      lines ++ more,
      appended old mid new lines more q said.2,
      subst (λ l. AreLines octets l (lines ++ more)) (sym (take_more ps i d below))
          (subst (λ o. AreLines octets (take i ps ++ p ∷ []) (lines ++ piece_lines p o said.0)) (sym is) (lines_more octets (take i ps) p lines said.0 are (subst (λ o. IsSaid p o said.0) is said.1))),
    )

-- the lines of pieces, whatever the lines of the others are
pub Continues : List ℕ → List ℕ → List Field → List ℕ → List Piece → List Piece → List Field → List Piece → List Piece → List ℕ → Type 0
Continues octets canonical fields hint all others ahead left right done =
    (rest : List ℕ) → AreNamedLines octets canonical ahead hint left right rest → AreNamedLines octets canonical fields hint all others (done ++ rest)

-- one more piece
pub continued : (octets canonical : List ℕ) (fields : List Field) (hint : List ℕ) (all others : List Piece) (ahead : List Field) (p : Piece) (left right : List Piece) (done first : List ℕ) → AreLinesOf octets canonical (left_for right ahead) hint p (slice_get right 0) first
    → Continues octets canonical fields hint all others ahead (p ∷ left) right done → Continues octets canonical fields hint all others (left_for right ahead) left (drop 1 right) (done ++ first)
unfolding Continues
continued octets canonical fields hint all others ahead p left right done first is goes rest are =
    subst (λ l. AreNamedLines octets canonical fields hint all others l) (sym (append_assoc done first rest)) (goes (first ++ rest) (first, is, (rest, are, refl)))

-- at first all pieces are left
pub begun : (octets canonical : List ℕ) (fields : List Field) (hint : List ℕ) (all others : List Piece) → Continues octets canonical fields hint all others fields all others []
unfolding Continues
begun octets canonical fields hint all others rest are = are

-- at last none is left
pub all_told : (octets canonical : List ℕ) (fields : List Field) (hint : List ℕ) (all others : List Piece) (ahead : List Field) (left right : List Piece) (done : List ℕ) → length left ≡ 0 → Continues octets canonical fields hint all others ahead left right done → AreNamedLines octets canonical fields hint all others done
unfolding Continues
all_told octets canonical fields hint all others ahead [] right done none goes = subst (λ l. AreNamedLines octets canonical fields hint all others l) (append-nil done) (goes [] refl)
all_told octets canonical fields hint all others ahead (p ∷ left) right done none goes = absurd (omega (arith, none))

-- equal octets compare as equal
pub same_octets : (a b : List ℕ) → a ≡ b → pointwise eqb a b ≡ true
same_octets a b is = (bytes_decides a b).1 is

-- the canonical octets were appended, which are not its own
pub noted : {E : Type 0} (r : Result ℕ E) (own : List ℕ) (q : Piece) (canonical old mid new : List ℕ) → (own ≡ canonical → ⊥) → mid ≡ old ++ codes "  ~ " → IfOk r (λ end. take end new ≡ mid ++ front_text q canonical) → IfOk r (λ end. (x : List ℕ) × (take end new ≡ old ++ x) × IsNote own q canonical x)
noted (Ok end) own q canonical old mid new other p r = (codes "  ~ " ++ front_text q canonical, appended old mid (take end new) (codes "  ~ ") (front_text q canonical) p r, inr (other, refl))
noted (Err fault) own q canonical old mid new other p r = tt

-- the lines of a piece with its own octets
pub beside_own : {E : Type 0} (r : Result ℕ E) (octets canonical : List ℕ) (fields : List Field) (p q : Piece) (own beside old new : List ℕ) → own ≡ octets_of octets p → beside ≡ octets_of canonical q
    → IfOk r (λ end. (said : List ℕ) × IsSaidBeside fields p own q beside said × (take end new ≡ old ++ piece_lines p own said)) → IfOk r (λ end. (x : List ℕ) × (take end new ≡ old ++ x) × AreLinesBeside octets canonical fields p q x)
beside_own (Ok end) octets canonical fields p q own beside old new is is_beside told =
    let said = told.0 in (
      piece_lines p own said,
      told.2,
      (
        said,
        subst (λ o. IsSaidBeside fields p o q (octets_of canonical q) said) is (subst (λ o. IsSaidBeside fields p own q o said) is_beside told.1),
        ap (λ o. piece_lines p o said) is,
      ),
    )
beside_own (Err fault) octets canonical fields p q own beside old new is is_beside told = tt

-- what is said of a piece of canonical octets, which stands beside itself
pub said_itself : {E : Type 0} (r : Result ℕ E) (fields : List Field) (p : Piece) (own old one two new : List ℕ) (label : Option Label) → IsLabel (within p fields) p label → one ≡ old ++ (place_text p.place ++ (column (front_text p own) ++ blanks (2 * p.depth)))
    → (said : List ℕ) × (two ≡ one ++ said) × IsNamed label p own said → IfOk r (λ end. take end new ≡ two ++ (codes "\n" ++ further_lines p own ((length own - 1) / 8))) → IfOk r (λ end. (x : List ℕ) × IsSaidBeside fields p own p own x × (take end new ≡ old ++ piece_lines p own x))
said_itself r fields p own old one two new label is q says end =
    let said = says.0 in
    said_piece (IsSaidBeside fields p own p own) r p own old one two new said q says.1 (label, is, (said, says.2, ([], inl (refl, refl), sym (append-nil said)))) end

-- those of a piece that is no data
pub no_data : {E : Type 0} (r : Result ℕ E) (octets canonical : List ℕ) (fields : List Field) (p q : Piece) (old new : List ℕ) → is_data p.kind ≡ false
    → IfOk r (λ end. (x : List ℕ) × (take end new ≡ old ++ x) × AreLinesBeside octets canonical fields p q x) → IfOk r (λ end. (x : List ℕ) × (take end new ≡ old ++ x) × ArePieceLines octets canonical fields p q x)
no_data (Ok end) octets canonical fields p q old new other told =
    (told.0, told.1, subst (λ b. Either b (AreDataLines octets canonical fields p.place (p.place + length (octets_of octets p)) fields told.0) (AreLinesBeside octets canonical fields p q told.0)) (sym other) told.2)
no_data (Err fault) octets canonical fields p q old new other told = tt

-- those of data
pub data_told : {E : Type 0} (r : Result ℕ E) (octets canonical : List ℕ) (fields : List Field) (p q : Piece) (own old new : List ℕ) → is_data p.kind ≡ true → own ≡ octets_of octets p
    → IfOk r (λ end. (x : List ℕ) × (take end new ≡ old ++ x) × AreDataLines octets canonical fields p.place (p.place + length own) fields x) → IfOk r (λ end. (x : List ℕ) × (take end new ≡ old ++ x) × ArePieceLines octets canonical fields p q x)
data_told (Ok end) octets canonical fields p q own old new sure is told = (
  told.0,
  told.1,
  subst (λ b. Either b (AreDataLines octets canonical fields p.place (p.place + length (octets_of octets p)) fields told.0) (AreLinesBeside octets canonical fields p q told.0)) (sym sure)
      (subst (λ o. AreDataLines octets canonical fields p.place (p.place + length o) fields told.0) is told.2),
)
data_told (Err fault) octets canonical fields p q own old new sure is told = tt

-- those of a piece beside the first one of the canonical octets
pub beside_first : {E : Type 0} (r : Result ℕ E) (octets canonical : List ℕ) (fields : List Field) (hint : List ℕ) (p : Piece) (others : List Piece) (d : Piece) (old new : List ℕ) → 0 < length others
    → IfOk r (λ end. (x : List ℕ) × (take end new ≡ old ++ x) × ArePieceLines octets canonical fields p (get_or others 0 d) x) → IfOk r (λ end. (x : List ℕ) × (take end new ≡ old ++ x) × AreLinesOf octets canonical fields hint p (slice_get others 0) x)
beside_first (Ok end) octets canonical fields hint p [] d old new some told = absurd (omega (arith, some))
beside_first (Ok end) octets canonical fields hint p (q ∷ qs) d old new some told = told
beside_first (Err fault) octets canonical fields hint p others d old new some told = tt

-- those of a piece that is beside none
pub beside_none : {E : Type 0} (r : Result ℕ E) (octets canonical : List ℕ) (fields : List Field) (hint : List ℕ) (p : Piece) (others : List Piece) (own old new : List ℕ) → length others ≡ 0 → own ≡ octets_of octets p
    → IfOk r (λ end. (said : List ℕ) × IsSaidWith hint p own said × (take end new ≡ old ++ piece_lines p own said)) → IfOk r (λ end. (x : List ℕ) × (take end new ≡ old ++ x) × AreLinesOf octets canonical fields hint p (slice_get others 0) x)
beside_none (Ok end) octets canonical fields hint p [] own old new none is told = (
  piece_lines p own told.0,
  told.2,
  (told.0, subst (λ o. IsSaidWith hint p o told.0) is told.1, ap (λ o. piece_lines p o told.0) is),
)
beside_none (Ok end) octets canonical fields hint p (q ∷ qs) own old new none is told = absurd (omega (arith, none))
beside_none (Err fault) octets canonical fields hint p others own old new none is told = tt

-- the words of a piece, and the hint
pub hinted : {E : Type 0} (r : Result ℕ E) (hint : List ℕ) (p : Piece) (own old mid new said shown : List ℕ) → mid ≡ old ++ said → IsSaid p own said → shown ≡ hint_for p.kind hint → IfOk r (λ end. take end new ≡ mid ++ shown) → IfOk r (λ end. (x : List ℕ) × (take end new ≡ old ++ x) × IsSaidWith hint p own x)
hinted (Ok end) hint p own old mid new said shown q is shows r =
    (said ++ shown, appended old mid (take end new) said shown q r, (said, is, ap (λ l. said ++ l) shows))
hinted (Err fault) hint p own old mid new said shown q is shows r = tt

-- the lines of data, whatever those of what is left are
pub DataContinues : List ℕ → List ℕ → List Field → ℕ → ℕ → ℕ → List Field → List Field → List ℕ → Type 0
DataContinues octets canonical fields from to place left rest done =
    (lines : List ℕ) → AreDataLines octets canonical left place to rest lines → AreDataLines octets canonical fields from to fields (done ++ lines)

-- at first all is left
pub data_begun : (octets canonical : List ℕ) (fields : List Field) (from to : ℕ) → DataContinues octets canonical fields from to from fields fields []
unfolding DataContinues
data_begun octets canonical fields from to lines are = are

-- one more part
pub data_cut : (octets canonical : List ℕ) (fields : List Field) (from to place : ℕ) (left : List Field) (f : Field) (more : List Field) (done first : List ℕ) → begins_between place to f ≡ true
    → AreLinesBeside octets canonical left (data_part place f.place) (data_part place f.place) first → DataContinues octets canonical fields from to place left (f ∷ more) done → DataContinues octets canonical fields from to f.place (f ∷ more) more (done ++ first)
unfolding DataContinues
data_cut octets canonical fields from to place left f more done first cut is goes lines are =
    let two = (x : List ℕ) × AreLinesBeside octets canonical left (data_part place f.place) (data_part place f.place) x × ((rest : List ℕ) × AreDataLines octets canonical (f ∷ more) f.place to more rest × (first ++ lines ≡ x ++ rest)) in
    subst (λ l. AreDataLines octets canonical fields from to fields l) (sym (append_assoc done first lines))
    (goes (first ++ lines) (subst (λ b. Either b two (AreDataLines octets canonical left place to more (first ++ lines))) (sym cut) (first, is, (lines, are, refl))))

-- a field that begins elsewhere
pub data_passed : (octets canonical : List ℕ) (fields : List Field) (from to place : ℕ) (left : List Field) (f : Field) (more : List Field) (done : List ℕ) → begins_between place to f ≡ false → DataContinues octets canonical fields from to place left (f ∷ more) done → DataContinues octets canonical fields from to place left more done
unfolding DataContinues
data_passed octets canonical fields from to place left f more done other goes lines are =
    let two = (x : List ℕ) × AreLinesBeside octets canonical left (data_part place f.place) (data_part place f.place) x × ((rest : List ℕ) × AreDataLines octets canonical (f ∷ more) f.place to more rest × (lines ≡ x ++ rest)) in
    goes lines (subst (λ b. Either b two (AreDataLines octets canonical left place to more lines)) (sym other) are)

-- the last part
pub data_last : {E : Type 0} (r : Result ℕ E) (octets canonical : List ℕ) (fields : List Field) (from to place : ℕ) (left rest : List Field) (done old mid new : List ℕ) → length rest ≡ 0 → mid ≡ old ++ done → DataContinues octets canonical fields from to place left rest done
    → IfOk r (λ end. (x : List ℕ) × (take end new ≡ mid ++ x) × AreLinesBeside octets canonical left (data_part place to) (data_part place to) x) → IfOk r (λ end. (x : List ℕ) × (take end new ≡ old ++ x) × AreDataLines octets canonical fields from to fields x)
unfolding DataContinues
data_last (Ok end) octets canonical fields from to place left [] done old mid new none q goes told = (done ++ told.0, appended old mid (take end new) done told.0 q told.1, goes told.0 told.2)
data_last (Ok end) octets canonical fields from to place left (f ∷ rest) done old mid new none q goes told = absurd (omega (arith, none))
data_last (Err fault) octets canonical fields from to place left rest done old mid new none q goes told = tt

-- the lines of all pieces explain the octets
pub explained_lines : {E : Type 0} (r : Result Unit E) (octets : List ℕ) (v : Verdict) (slice pieces : List Piece) (old new : List ℕ) → slice ≡ pieces → Explains octets v pieces → OnOk r ((x : List ℕ) × (new ≡ old ++ x) × AreLines octets slice x) → OnOk r ((x : List ℕ) × (new ≡ old ++ x) × IsExplanation octets v x)
explained_lines (Ok done) octets v slice pieces old new is explains told = (told.0, told.1, (pieces, explains, subst (λ l. AreLines octets l told.0) is told.2))
explained_lines (Err fault) octets v slice pieces old new is explains told = tt

-- the same beside the pieces of the canonical octets
pub named_explained : {E : Type 0} (r : Result Unit E) (octets : List ℕ) (mark : Option ℕ) (typed : Bool) (canonical : List ℕ) (fields : List Field) (slice pieces beside others : List Piece) (old new : List ℕ) → slice ≡ pieces → beside ≡ others → Explains octets (Accepted mark typed) pieces → Explains canonical (Accepted None typed) others
    → OnOk r ((x : List ℕ) × (new ≡ old ++ x) × AreNamedLines octets canonical fields [] slice beside x) → OnOk r ((x : List ℕ) × (new ≡ old ++ x) × IsNamedExplanation octets mark typed canonical fields x)
named_explained (Ok done) octets mark typed canonical fields slice pieces beside others old new is same explains least told =
    let lines = told.0 in
    (lines, told.1, (pieces, explains, (others, least, subst (λ l. AreNamedLines octets canonical fields [] pieces l lines) same (subst (λ l. AreNamedLines octets canonical fields [] l beside lines) is told.2))))
named_explained (Err fault) octets mark typed canonical fields slice pieces beside others old new is same explains least told = tt
