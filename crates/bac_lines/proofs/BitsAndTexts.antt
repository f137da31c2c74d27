-- Bits and texts at the front of a line.
use Rattle.std.specs.Prelude.{◌≡◌, ℕ, ◌+◌, ◌-◌, ◌*◌, ◌/◌, ◌<◌, ◌≤◌, ◌==◌, ◌||◌, ◌&&◌, not, Bool, true, false, List, [], ◌∷◌, ◌++◌, length, map, take, drop, slice_index, codes, Option, None, Some, Result, Ok, Err, IsTrue, IfOk, IfSome, if◌then◌else◌, refl}
use Rattle.std.proofs.Common.{sym, ◌∙◌, ap, arith, append_assoc, subst, get_or, inl, inr, suc, zero, unwrap_or}
use Rattle.std.specs.List.{prefix_len, position, take_while, range_with_len, list_all}
use Rattle.std.proofs.lemmas.Bool.{and_parts, or_cases, eqb-true, lt-ltb}
use Rattle.std.proofs.lemmas.List.{length-map, length-append, length-drop, take_all}
use Rattle.std.proofs.lemmas.List.Quantifiers.{position-Some}
use Rattle.std.proofs.lemmas.List.Folds.{length-prefix_len}
use Rattle.std.proofs.lemmas.List.FromFn.{map-range_with_len_more}
use Rattle.std.proofs.Math.Seq.{take-append_seam, drop-append_seam}
use Rattle.std.specs.Str.{is_utf8}
use Rattle.bac_tag.specs.Octets.{IsOctets}
use Rattle.bac_value.specs.BitsContents.{octet_from, octets_for, packed_bits}
use Rattle.bac_value.specs.TextContents.{TextValue}
use Rattle.bac_record.specs.Digits.{hexadecimal}
use Rattle.bac_text.specs.Words.{number}
use Rattle.bac_text.specs.PrimitiveText.{bit_digit, is_plain_octet, is_plain}
use Rattle.bac_lines.specs.declared.fault.LineFault.{LineFault}
use Rattle.bac_lines.specs.Scanning.{ends_field, text_tail}
use Rattle.bac_lines.proofs.Digits.{first_is_digit}

-- ---- bits

abbrev pub is_bit : ℕ → Bool
is_bit x = (x == 48) || (x == 49)

abbrev pub is_one : ℕ → Bool
is_one x = x == 49

no_bit_ends : (more : List ℕ) → IsTrue (ends_field more) → prefix_len is_bit more ≡ 0
no_bit_ends [] e = refl
no_bit_ends (x ∷ more) e = elim (or_cases (x == 32) ((x == 41) || (x == 125)) e) [
  | inl a ↦ subst (λ (y : ℕ). prefix_len is_bit (y ∷ more) ≡ 0) (sym (eqb-true x 32 a)) refl
  | inr r ↦ (elim (or_cases (x == 41) (x == 125) r) [
    | inl b ↦ subst (λ (y : ℕ). prefix_len is_bit (y ∷ more) ≡ 0) (sym (eqb-true x 41 b)) refl
    | inr d ↦ subst (λ (y : ℕ). prefix_len is_bit (y ∷ more) ≡ 0) (sym (eqb-true x 125 d)) refl
  ])
]

prefix_of_bits : (bits : List Bool) (more : List ℕ) → IsTrue (ends_field more) → prefix_len is_bit (map bit_digit bits ++ more) ≡ length bits
prefix_of_bits [] more e = no_bit_ends more e
prefix_of_bits (true ∷ bits) more e = omega (arith, prefix_of_bits bits more e)
prefix_of_bits (false ∷ bits) more e = omega (arith, prefix_of_bits bits more e)

pub bits_again : (bits : List Bool) → map is_one (map bit_digit bits) ≡ bits
bits_again [] = refl
bits_again (true ∷ bits) = ap (λ (l : List Bool). true ∷ l) (bits_again bits)
bits_again (false ∷ bits) = ap (λ (l : List Bool). false ∷ l) (bits_again bits)

-- the octets of so many digits, up to a place
abbrev pub octets_to : List ℕ → ℕ → List ℕ
octets_to digits count = map (λ i. octet_from (map is_one digits) (8 * i)) (range_with_len 0 count)

pub one_octet_more : (digits old now next : List ℕ) (index octet : ℕ) → now ≡ old ++ octets_to digits index → octet ≡ octet_from (map is_one digits) (8 * index) → next ≡ now ++ octet ∷ [] → next ≡ old ++ octets_to digits (index + 1)
one_octet_more digits old now next index octet are is pushed =
    pushed ∙ ap (λ (l : List ℕ). l ++ octet ∷ []) are ∙ append_assoc old (octets_to digits index) (octet ∷ []) ∙ ap (λ (x : ℕ). old ++ (octets_to digits index ++ x ∷ [])) is
    ∙ ap (λ (l : List ℕ). old ++ l) (sym (map-range_with_len_more (λ i. octet_from (map is_one digits) (8 * i)) 0 index index (omega arith)))

-- all bits have been added
pub all_bits : (line old new : List ℕ) (count octets : ℕ) → count ≡ length (take_while is_bit line) → octets ≡ (count + 7) / 8 → new ≡ old ++ octets_to (take count line) octets → (bits : List Bool) (more : List ℕ)
    → IsTrue (ends_field more) → line ≡ map bit_digit bits ++ more → (count ≡ length bits) × (new ≡ old ++ packed_bits bits)
unfolding packed_bits
all_bits line old new count octets is_count are_octets are bits more ends is =
    let digits : take (length bits) line ≡ map bit_digit bits = ap (take (length bits)) is ∙ ap (λ (n : ℕ). take n (map bit_digit bits ++ more)) (sym (length-map bits bit_digit)) ∙ take-append_seam (map bit_digit bits) more in
    let front : take_while is_bit line ≡ map bit_digit bits = ap (λ (n : ℕ). take n line) (ap (prefix_len is_bit) is ∙ prefix_of_bits bits more ends) ∙ digits in
    let size : count ≡ length bits = is_count ∙ ap length front ∙ length-map bits bit_digit in
    let same : map is_one (take count line) ≡ bits = ap (λ (n : ℕ). map is_one (take n line)) size ∙ ap (map is_one) digits ∙ bits_again bits in
    let many : octets ≡ octets_for (length bits) = are_octets ∙ ap (λ (n : ℕ). (n + 7) / 8) size in
    (size, are ∙ ap (λ (b : List Bool). old ++ map (λ i. octet_from b (8 * i)) (range_with_len 0 octets)) same ∙ ap (λ (n : ℕ). old ++ map (λ i. octet_from bits (8 * i)) (range_with_len 0 n)) many)

bit_again : (x : ℕ) → IsTrue (is_bit x) → bit_digit (is_one x) ≡ x
bit_again x e = elim (or_cases (x == 48) (x == 49) e) [
  | inl a ↦ subst (λ (y : ℕ). bit_digit (is_one y) ≡ y) (sym (eqb-true x 48 a)) refl
  | inr b ↦ subst (λ (y : ℕ). bit_digit (is_one y) ≡ y) (sym (eqb-true x 49 b)) refl
]

digits_again : (line : List ℕ) → map bit_digit (map is_one (take_while is_bit line)) ≡ take_while is_bit line
digits_again [] = refl
digits_again (x ∷ line) = by (is_bit x) refl (digits_again line)
  where
    by : (b : Bool) → is_bit x ≡ b → map bit_digit (map is_one (take_while is_bit line)) ≡ take_while is_bit line → map bit_digit (map is_one (take_while is_bit (x ∷ line))) ≡ take_while is_bit (x ∷ line)
    by true e rest =
        let next : 1 + prefix_len is_bit line ≡ suc (prefix_len is_bit line) = omega arith in
        rw (e, next) (ap (λ (y : ℕ). y ∷ map bit_digit (map is_one (take_while is_bit line))) (bit_again x e) ∙ ap (λ (l : List ℕ). x ∷ l) rest)
    by false e rest = rw e refl

-- the bits that have been added are those at the front
pub bits_sound : (line old new : List ℕ) (count octets : ℕ) → count ≡ length (take_while is_bit line) → octets ≡ (count + 7) / 8 → new ≡ old ++ octets_to (take count line) octets
    → (bits : List Bool) × (count ≡ length bits) × (new ≡ old ++ packed_bits bits) × (take count line ≡ map bit_digit bits)
unfolding packed_bits
bits_sound line old new count octets is_count are_octets are =
    let bits = map is_one (take count line) in
    let front : take count line ≡ take_while is_bit line = ap (λ (n : ℕ). take n line) (is_count ∙ length-prefix_len is_bit line) in
    let size : count ≡ length bits = is_count ∙ ap length (sym front) ∙ sym (length-map (take count line) is_one) in
    let many : octets ≡ octets_for (length bits) = are_octets ∙ ap (λ (n : ℕ). (n + 7) / 8) size in
    (bits, size, are ∙ ap (λ (n : ℕ). old ++ map (λ i. octet_from bits (8 * i)) (range_with_len 0 n)) many, front ∙ sym (digits_again line) ∙ ap (λ (l : List ℕ). map bit_digit (map is_one l)) (sym front))

-- ---- plain octets before a quotation mark

abbrev pub not_plain : ℕ → Bool
not_plain x = not (is_plain_octet x)

plain_prefix : (octets more : List ℕ) → IsTrue (list_all is_plain_octet octets) → prefix_len (λ x. not (not_plain x)) (octets ++ 34 ∷ more) ≡ length octets
plain_prefix [] more run = refl
plain_prefix (x ∷ octets) more run =
    let p = and_parts (is_plain_octet x) (list_all is_plain_octet octets) run in
    rw p.0 (omega (arith, plain_prefix octets more p.1))

pub mark_after : (octets more : List ℕ) → IsTrue (list_all is_plain_octet octets) → position not_plain (octets ++ 34 ∷ more) ≡ Some (length octets)
mark_after octets more run =
    let place = plain_prefix octets more run in
    let within : length octets < length (octets ++ 34 ∷ more) = omega (arith, length-append octets (34 ∷ more)) in
    rw place (rw (lt-ltb (length octets) (length (octets ++ 34 ∷ more)) within) refl)

all_before : (line : List ℕ) (n : ℕ) → n ≤ length line → ((k : ℕ) → k < n → not_plain (get_or line k 0) ≡ false) → IsTrue (list_all is_plain_octet (take n line))
all_before line zero within each = refl
all_before [] (suc n) within each = absurd (omega (arith, within))
all_before (x ∷ line) (suc n) within each =
    let first : is_plain_octet x ≡ true = plain (is_plain_octet x) (each 0 (omega arith)) in
    rw (first, all_before line n (omega (arith, within)) (λ k lt. each (suc k) (omega (arith, lt)))) refl
  where
    plain : (b : Bool) → not b ≡ false → b ≡ true
    plain true e = refl
    plain false e = cc

-- the octets before the first one that is not plain
pub plain_before : (line : List ℕ) (n : ℕ) → Some n ≡ position not_plain line → (n < length line) × IsTrue (list_all is_plain_octet (take n line))
plain_before line n is =
    let place = position-Some not_plain line n 0 (sym is) in
    (place.0, all_before line n (omega (arith, place.0)) place.2)

pub octets_known : (line : List ℕ) → ((i : ℕ) → get_or line i 0 < 256) → IsOctets line
octets_known [] each = tt
octets_known (x ∷ line) each = (each 0, octets_known line (λ i. each (suc i)))

-- ---- texts in quotation marks

-- the text as `text_tail` has it, by whether it is plain
abbrev pub if_plain : TextValue → Bool → List ℕ
if_plain text plain = if plain then codes ":\"" ++ (text.octets ++ codes "\"") else number text.set ++ (codes ":" ++ hexadecimal text.octets)

pub record IsQuoted (text : TextValue) (rest more : List ℕ) : Type 0 where
  pub set : 0 ≡ text.set
  pub plain : IsTrue (list_all is_plain_octet text.octets)
  pub utf8 : IsTrue (is_utf8 text.octets)
  pub is : rest ≡ text.octets ++ 34 ∷ more
  pub size : length text.octets + 3 ≡ length (text_tail text)

pub text_is_quoted : (line rest : List ℕ) → line ≡ 58 ∷ 34 ∷ rest → (text : TextValue) (more : List ℕ) → text.set < 256 → line ≡ text_tail text ++ more → IsQuoted text rest more
text_is_quoted line rest begins text more small is = by (is_plain text) refl
  where
    by : (plain : Bool) → is_plain text ≡ plain → IsQuoted text rest more
    by true e =
        let tail : text_tail text ≡ codes ":\"" ++ (text.octets ++ codes "\"") = ap (if_plain text) e in
        let both = and_parts (text.set == 0) (list_all is_plain_octet text.octets && is_utf8 text.octets) e in
        let octets = and_parts (list_all is_plain_octet text.octets) (is_utf8 text.octets) both.1 in
        record {
          set = sym (eqb-true text.set 0 both.0);
          plain = octets.0;
          utf8 = octets.1;
          is = ap (drop 2) (sym begins ∙ is ∙ ap (λ (l : List ℕ). l ++ more) tail) ∙ append_assoc text.octets (34 ∷ []) more;
          size = omega (arith, length-append text.octets (34 ∷ []), ap length tail);
        }
    by false e =
        let tail : text_tail text ≡ number text.set ++ (codes ":" ++ hexadecimal text.octets) = ap (if_plain text) e in
        let colon : false ≡ true = first_is_digit text.set 58 ((codes ":" ++ hexadecimal text.octets) ++ more) (34 ∷ rest) (omega (arith, small))
        (sym begins ∙ is ∙ ap (λ (l : List ℕ). l ++ more) tail ∙ append_assoc (number text.set) (codes ":" ++ hexadecimal text.octets) more) in
        absurd (cc)

-- where the octets before a quotation mark end
pub quoted_at : (line octets more : List ℕ) (count : ℕ) → Some count ≡ position not_plain line → IsTrue (list_all is_plain_octet octets) → line ≡ octets ++ 34 ∷ more → (count ≡ length octets) × (take count line ≡ octets) × (slice_index line count ≡ 34)
quoted_at line octets more count place run is =
    let at : count ≡ length octets = ap (λ (o : Option ℕ). unwrap_or o 0) (place ∙ ap (position not_plain) is ∙ mark_after octets more run) in
    (at, ap (λ n. take n line) at ∙ ap (take (length octets)) is ∙ take-append_seam octets (34 ∷ more), ap (λ n. slice_index line n) at ∙ ap (λ l. slice_index l (length octets)) is ∙ slice_seam octets)
  where
    slice_seam : (octets : List ℕ) → slice_index (octets ++ 34 ∷ more) (length octets) ≡ 34
    slice_seam [] = refl
    slice_seam (x ∷ octets) = slice_seam octets

pub quoted_sound : (line rest octets : List ℕ) (count : ℕ) → line ≡ 58 ∷ 34 ∷ rest → IsTrue (list_all is_plain_octet octets) → IsTrue (is_utf8 octets) → take (count + 1) rest ≡ octets ++ 34 ∷ [] → take (count + 3) line ≡ text_tail (record { set = 0; octets = octets })
quoted_sound line rest octets count begins plain utf8 is =
    let places : count + 3 ≡ suc (suc (count + 1)) = omega arith in
    let text : TextValue = record { set = 0; octets = octets } in
    let is_so : true ≡ is_plain text = rw (plain, utf8) refl in
    ap (take (count + 3)) begins ∙ ap (λ (n : ℕ). take n (58 ∷ 34 ∷ rest)) places ∙ ap (λ (l : List ℕ). 58 ∷ 34 ∷ l) is ∙ ap (if_plain text) is_so

-- ---- texts as digits

-- what is behind the old octets
new_octets : (old new octets : List ℕ) → new ≡ old ++ octets → take (length new - length old) (drop (length old) new) ≡ octets
new_octets old new octets is =
    let behind : drop (length old) new ≡ octets = ap (drop (length old)) is ∙ drop-append_seam old octets in
    take_all (length new - length old) (drop (length old) new) (omega (arith, length-drop (length old) new)) ∙ behind

-- they are not plain
pub new_coded : (set start : ℕ) (old new view octets : List ℕ) → start ≡ length old → view ≡ new → new ≡ old ++ octets → false ≡ is_plain (record { set = set; octets = take (length view - start) (drop start view) }) → is_plain (record { set = set; octets = octets }) ≡ false
new_coded set start old new view octets begins same is coded =
    let front : take (length view - start) (drop start view) ≡ octets = ap (λ (n : ℕ). take (length view - n) (drop n view)) begins ∙ ap (λ (l : List ℕ). take (length l - length old) (drop (length old) l)) same ∙ new_octets old new octets is in
    ap (λ (l : List ℕ). is_plain (record { set = set; octets = l })) (sym front) ∙ sym coded

abbrev pub HasCoded : List ℕ → List ℕ → List ℕ → ℕ × ℕ → Type 0
HasCoded line old new found = (octets : List ℕ) × ((found.0 < 256) × (IsOctets octets × ((is_plain (record { set = found.0; octets = octets }) ≡ false) × ((new ≡ old ++ octets) × (take found.1 line ≡ number found.0 ++ (codes ":" ++ hexadecimal octets))))))

abbrev pub HasText : List ℕ → List ℕ → List ℕ → ℕ × ℕ → Type 0
HasText line old new found = (text : TextValue) × ((found.0 ≡ text.set) × ((text.set < 256) × (IsOctets text.octets × ((new ≡ old ++ text.octets) × (take found.1 line ≡ text_tail text)))))

pub coded_sound : (line old new : List ℕ) (r : Result (Option (ℕ × ℕ)) LineFault) → IfOk r (λ found. IfSome found (HasCoded line old new)) → IfOk r (λ found. IfSome found (HasText line old new))
coded_sound line old new (Ok (Some found)) h =
    let text : TextValue = record { set = found.0; octets = h.0 } in
    (text, (refl, (h.1.0, (h.1.1.0, (h.1.1.1.1.0, h.1.1.1.1.1 ∙ ap (if_plain text) (sym h.1.1.1.0))))))
coded_sound line old new (Ok None) h = tt
coded_sound line old new (Err fault) h = tt

-- a pair by its parts
pub found_pair : (a b m n : ℕ) → a ≡ b → m ≡ n → ◌≡◌ {A = Option (ℕ × ℕ)} (Some (a, m)) (Some (b, n))
found_pair a b m n e f = ap (λ (k : ℕ). Some (a, k)) f ∙ ap (λ (k : ℕ). Some (k, n)) e
