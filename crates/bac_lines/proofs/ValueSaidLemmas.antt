-- What the text of a value tells: the value, and what comes after its text.
use Rattle.std.specs.Prelude.{◌≡◌, ℕ, ◌/◌, ◌%◌, ◌<◌, ◌^◌, List, [], ◌∷◌, ◌++◌, length, map, drop, Bool, true, false, nat_eq, codes, decimal, if◌then◌else◌, IsTrue, refl}
use Rattle.std.specs.Fmt.{signed_decimal}
use Rattle.std.specs.Int.{w64, cast_signed}
use Rattle.std.specs.List.{list_all}
use Rattle.std.proofs.Common.{sym, ◌∙◌, ap, subst, inl, inr, arith, append_assoc}
use Rattle.std.proofs.lemmas.Bool.{and_parts, cases_lt, eqb-true, eqb-false}
use Rattle.std.proofs.lemmas.List.{append_cancel_left}
use Rattle.bac_tag.specs.Octets.{IsOctets}
use Rattle.bac_value.specs.BitsContents.{bits_in, packed_bits}
use Rattle.bac_value.specs.TextContents.{TextValue}
use Rattle.bac_record.specs.Digits.{hexadecimal}
use Rattle.bac_text.specs.Words.{number, object_text}
use Rattle.bac_text.specs.PrimitiveText.{bit_digit, is_plain_octet, is_plain}
use Rattle.bac_text.specs.FrameText.{address_text}
use Rattle.bac_field_parts.specs.declared.names.Name.{Name}
use Rattle.bac_field_parts.specs.declared.names.Name.TheVariants as name
use Rattle.bac_field_parts.specs.Fields.{FieldValue}
use Rattle.bac_fields.specs.Line.{Form, as_word, as_number, as_object, as_octets, as_address, as_type, as_list, as_value, as_truth, as_element, as_signed, as_contents, as_bits, as_identifier, as_text, object_of, begins}
use Rattle.bac_lines.specs.declared.closing.Closing.{Closing}
use Rattle.bac_lines.specs.Scanning.{clear, each, is_decimal, is_hex, ends_field, text_tail, word_number, HasBits, TokenIn}
use Rattle.bac_lines.specs.Found.{by_word, sort_of, word_before, after_word}
use Rattle.bac_lines.proofs.SymbolRuns.{run_is_one}
use Rattle.bac_lines.proofs.Digits.{value_after, decimal_digits, decimal_value, positive_text, is_negative, no_minus}
use Rattle.bac_lines.proofs.Hexes.{hex_digits, hex_tells}
use Rattle.bac_lines.proofs.BitsAndTexts.{is_bit, is_one, bits_again, if_plain, text_is_quoted}
use Rattle.bac_lines.proofs.ScanLemmas.{clear_of, not_digits}
use Rattle.bac_lines.proofs.WordLemmas.{head_is, heads, tail_is}
use Rattle.bac_lines.proofs.PrintedLemmas.{Alike}

-- Each lemma here is of two texts that are the same together with what comes after them: then the values are the same, and so is
-- what comes after them.

-- ---- values

-- runs of symbols, with none of these after them
pub run_told : (test : ℕ → Bool) (a c more rest : List ℕ) → IsTrue (each test a) → IsTrue (each test c) → IsTrue (clear test more) → IsTrue (clear test rest) → a ++ more ≡ c ++ rest → (a ≡ c) × (more ≡ rest)
run_told test a c more rest p q k m e =
    let same = run_is_one test a c more rest p q e k m in
    (sym same, append_cancel_left a more rest (e ∙ ap (λ (l : List ℕ). l ++ rest) same))

-- decimal digits
pub number_told : (m n : ℕ) (more rest : List ℕ) → m < 2 ^ 64 → n < 2 ^ 64 → IsTrue (clear is_decimal more) → IsTrue (clear is_decimal rest) → number m ++ more ≡ number n ++ rest → (m ≡ n) × (more ≡ rest)
number_told m n more rest small low k l e =
    let run = run_told is_decimal (decimal m) (decimal n) more rest (decimal_digits m small) (decimal_digits n low) k l e in
    (sym (decimal_value m small) ∙ ap (value_after 0) run.0 ∙ decimal_value n low, run.1)

-- two numbers with a colon between them
object_told : (m n : ℕ) (more rest : List ℕ) → m < 2 ^ 32 → n < 2 ^ 32 → IsTrue (clear is_decimal more) → IsTrue (clear is_decimal rest) → object_text (object_of m) ++ more ≡ object_text (object_of n) ++ rest → (m ≡ n) × (more ≡ rest)
object_told m n more rest small low k l e =
    let kind_m : m / 2 ^ 22 < 2 ^ 64 = omega (arith, small) in
    let kind_n : n / 2 ^ 22 < 2 ^ 64 = omega (arith, low) in
    let instance_m : m % 2 ^ 22 < 2 ^ 64 = omega (arith, small) in
    let instance_n : n % 2 ^ 22 < 2 ^ 64 = omega (arith, low) in
    let kinds = number_told (m / 2 ^ 22) (n / 2 ^ 22) (58 ∷ (number (m % 2 ^ 22) ++ more)) (58 ∷ (number (n % 2 ^ 22) ++ rest)) kind_m kind_n refl refl
    (sym (append_assoc (number (m / 2 ^ 22)) (58 ∷ number (m % 2 ^ 22)) more) ∙ e ∙ append_assoc (number (n / 2 ^ 22)) (58 ∷ number (n % 2 ^ 22)) rest) in
    let instances = number_told (m % 2 ^ 22) (n % 2 ^ 22) more rest instance_m instance_n k l (tail_is kinds.1) in
    (omega (arith, kinds.0, instances.0), instances.1)

-- decimal digits, with a minus sign before them if the number is negative
signed_told : (m n : ℕ) (more rest : List ℕ) → m < 2 ^ 64 → n < 2 ^ 64 → IsTrue (clear is_decimal more) → IsTrue (clear is_decimal rest)
    → signed_decimal (cast_signed w64 m) ++ more ≡ signed_decimal (cast_signed w64 n) ++ rest → (m ≡ n) × (more ≡ rest)
signed_told m n more rest small low k l e = elim (cases_lt m (2 ^ 63)) [
  | inl p ↦ elim (cases_lt n (2 ^ 63)) [
    | inl q ↦ number_told m n more rest small low k l (sym (ap (λ (t : List ℕ). t ++ more) (positive_text m p)) ∙ e ∙ ap (λ (t : List ℕ). t ++ rest) (positive_text n q))
    | inr q ↦
        let b = is_negative n low q in
        absurd (no_minus m more (decimal b.magnitude ++ rest) small (sym (ap (λ (t : List ℕ). t ++ rest) b.is_text) ∙ sym e ∙ ap (λ (t : List ℕ). t ++ more) (positive_text m p)))
  ]
  | inr p ↦
      let a = is_negative m small p in
      elim (cases_lt n (2 ^ 63)) [
        | inl q ↦ absurd (no_minus n rest (decimal a.magnitude ++ more) low (sym (ap (λ (t : List ℕ). t ++ more) a.is_text) ∙ e ∙ ap (λ (t : List ℕ). t ++ rest) (positive_text n q)))
        | inr q ↦
            let b = is_negative n low q in
            let room : a.magnitude < 2 ^ 64 = omega (arith, a.low, a.sum) in
            let space : b.magnitude < 2 ^ 64 = omega (arith, b.low, b.sum) in
            let same = number_told a.magnitude b.magnitude more rest room space k l (tail_is (sym (ap (λ (t : List ℕ). t ++ more) a.is_text) ∙ e ∙ ap (λ (t : List ℕ). t ++ rest) b.is_text)) in
            (omega (arith, same.0, a.sum, b.sum), same.1)
      ]
]

-- hexadecimal digits
pub hex_told : (a b more rest : List ℕ) → IsOctets a → IsOctets b → IsTrue (ends_field more) → IsTrue (ends_field rest) → hexadecimal a ++ more ≡ hexadecimal b ++ rest → (a ≡ b) × (more ≡ rest)
hex_told a b more rest o p k l e =
    let run = run_told is_hex (hexadecimal a) (hexadecimal b) more rest (hex_digits a o) (hex_digits b p) (clear_of is_hex refl refl refl more k) (clear_of is_hex refl refl refl rest l) e in
    (hex_tells a b o p run.0, run.1)

-- an address, which is an asterisk if it has no octets
address_told : (a b more rest : List ℕ) → IsOctets a → IsOctets b → IsTrue (ends_field more) → IsTrue (ends_field rest) → address_text a ++ more ≡ address_text b ++ rest → (a ≡ b) × (more ≡ rest)
address_told [] [] more rest o p k l e = (refl, tail_is e)
address_told [] (y ∷ b) more rest o p k l e = absurd (not_digits 42 refl refl (y ∷ b) rest more p l e)
address_told (x ∷ a) [] more rest o p k l e = absurd (not_digits 42 refl refl (x ∷ a) more rest o k (sym e))
address_told (x ∷ a) (y ∷ b) more rest o p k l e = hex_told (x ∷ a) (y ∷ b) more rest o p k l e

-- a bit is a 0 or a 1
digits_of_bits : (bits : List Bool) → IsTrue (each is_bit (map bit_digit bits))
digits_of_bits [] = refl
digits_of_bits (true ∷ bits) = digits_of_bits bits
digits_of_bits (false ∷ bits) = digits_of_bits bits

-- bits, a digit each
bits_told : (a b : List Bool) (more rest : List ℕ) → IsTrue (ends_field more) → IsTrue (ends_field rest) → map bit_digit a ++ more ≡ map bit_digit b ++ rest → (a ≡ b) × (more ≡ rest)
bits_told a b more rest k l e =
    let run = run_told is_bit (map bit_digit a) (map bit_digit b) more rest (digits_of_bits a) (digits_of_bits b) (clear_of is_bit refl refl refl more k) (clear_of is_bit refl refl refl rest l) e in
    (sym (bits_again a) ∙ ap (map is_one) run.0 ∙ bits_again b, run.1)

-- the words of a truth value
truth_told : (m n : ℕ) → m < 2 → n < 2 → (if nat_eq m 0 then codes "false" else codes "true") ≡ (if nat_eq n 0 then codes "false" else codes "true") → m ≡ n
truth_told m n p q e = by (nat_eq m 0) (nat_eq n 0) refl refl e
  where
    by : (a b : Bool) → nat_eq m 0 ≡ a → nat_eq n 0 ≡ b → (if a then codes "false" else codes "true") ≡ (if b then codes "false" else codes "true") → m ≡ n
    by true true f g same = eqb-true m 0 f ∙ sym (eqb-true n 0 g)
    by true false f g same = absurd (heads 102 116 refl same)
    by false true f g same = absurd (heads 116 102 refl same)
    by false false f g same = omega (arith, p, q, eqb-false m 0 f, eqb-false n 0 g)

-- ---- texts

-- plain octets are a run
plain_run : (octets : List ℕ) → IsTrue (list_all is_plain_octet octets) → IsTrue (each is_plain_octet octets)
plain_run [] p = refl
plain_run (x ∷ octets) p = let q = and_parts (is_plain_octet x) (list_all is_plain_octet octets) p in rw (q.0, plain_run octets q.1) refl

module _ (t u : TextValue) (more rest : List ℕ) (small : t.set < 256) (low : u.set < 256) where
  abbrev SameText : Type 0
  SameText = (t.set ≡ u.set) × ((t.octets ≡ u.octets) × (more ≡ rest))

  -- in quotation marks
  quoted_told : (line inside : List ℕ) → line ≡ 58 ∷ 34 ∷ inside → line ≡ text_tail t ++ more → line ≡ text_tail u ++ rest → SameText
  quoted_told line inside begun e f =
      let p = text_is_quoted line inside begun t more small e in
      let q = text_is_quoted line inside begun u rest low f in
      let run = run_told is_plain_octet t.octets u.octets (34 ∷ more) (34 ∷ rest) (plain_run t.octets p.plain) (plain_run u.octets q.plain) refl refl (sym p.is ∙ q.is) in
      (sym p.set ∙ q.set, (run.0, tail_is run.1))

  -- as digits
  coded_told : IsOctets t.octets → IsOctets u.octets → IsTrue (ends_field more) → IsTrue (ends_field rest) → if_plain t false ++ more ≡ if_plain u false ++ rest → SameText
  coded_told o p k l e =
      let room : t.set < 2 ^ 64 = omega (arith, small) in
      let space : u.set < 2 ^ 64 = omega (arith, low) in
      let sets = number_told t.set u.set (58 ∷ (hexadecimal t.octets ++ more)) (58 ∷ (hexadecimal u.octets ++ rest)) room space refl refl
      (sym (append_assoc (number t.set) (58 ∷ hexadecimal t.octets) more) ∙ e ∙ append_assoc (number u.set) (58 ∷ hexadecimal u.octets) rest) in
      (sets.0, hex_told t.octets u.octets more rest o p k l (tail_is sets.1))

  -- either way: a text in quotation marks has a colon where the other one has a digit
  text_told : IsOctets t.octets → IsOctets u.octets → IsTrue (ends_field more) → IsTrue (ends_field rest) → text_tail t ++ more ≡ text_tail u ++ rest → SameText
  text_told o p k l e = by (is_plain t) (is_plain u) refl refl
    where
      tail : (x : TextValue) (plain : Bool) (l : List ℕ) → is_plain x ≡ plain → text_tail x ++ l ≡ if_plain x plain ++ l
      tail x plain l is = ap (λ (b : Bool). if_plain x b ++ l) is

      by : (a b : Bool) → is_plain t ≡ a → is_plain u ≡ b → SameText
      by true b f g = quoted_told (text_tail t ++ more) ((t.octets ++ 34 ∷ []) ++ more) (tail t true more f) refl e
      by false true f g = quoted_told (text_tail u ++ rest) ((u.octets ++ 34 ∷ []) ++ rest) (tail u true rest g) (sym e) refl
      by false false f g = coded_told o p k l (sym (tail t false more f) ∙ e ∙ tail u false rest g)

-- ---- fields with a word

-- a Real and a Double have the number that their octets are, and others 0
number_of_contents : (n : Name) (k m : ℕ) (octets : List ℕ) → HasBits n k octets → HasBits n m octets → k ≡ m
number_of_contents name.Real k m octets g h = g.0 ∙ sym h.0
number_of_contents name.Double k m octets g h = g.0 ∙ sym h.0
number_of_contents _ k m octets g h = g ∙ sym h

-- Two fields of this form have the same number, and the same contents if these are in the line. The same comes after them.
abbrev pub Told : Form → FieldValue → FieldValue → List ℕ → List ℕ → Type 0
Told form v w more rest = (v.number ≡ w.number) × (Alike form v.contents w.contents × (more ≡ rest))

module _ (v w : FieldValue) (ends after later : List Closing) (more rest : List ℕ) (names : v.name ≡ w.name) where
  -- so it is where the fields have one name and one word, and what comes after the word is the same
  abbrev pub Tells : Form → Type 0
  Tells form =
      TokenIn form ends v after → TokenIn form ends w later → (begins form ≡ false → IsTrue (ends_field more)) → (begins form ≡ false → IsTrue (ends_field rest)) → word_before form v ≡ word_before form w
      → after_word form v ++ more ≡ after_word form w ++ rest → Told form v w more rest

  -- digits end where a field ends
  no_decimal : (l : List ℕ) → IsTrue (ends_field l) → IsTrue (clear is_decimal l)
  no_decimal = clear_of is_decimal refl refl refl

  pub value_told : (form : Form) → sort_of form ≡ by_word → Tells form
  value_told as_word s t u k l words e = (t.0 ∙ ap word_number names ∙ sym u.0, (tt, e))
  value_told as_number s t u k l words e = let r = number_told v.number w.number more rest t.0 u.0 (no_decimal more (k refl)) (no_decimal rest (l refl)) (tail_is e) in (r.0, (tt, r.1))
  value_told as_object s t u k l words e = let r = object_told v.number w.number more rest t.0 u.0 (no_decimal more (k refl)) (no_decimal rest (l refl)) (tail_is e) in (r.0, (tt, r.1))
  value_told as_octets s t u k l words e = (t.0 ∙ sym u.0, hex_told v.contents w.contents more rest t.1.0 u.1.0 (k refl) (l refl) (tail_is e))
  value_told as_address s t u k l words e =
      let room : v.number < 2 ^ 64 = omega (arith, t.0) in
      let space : w.number < 2 ^ 64 = omega (arith, u.0) in
      let networks = number_told v.number w.number (47 ∷ (address_text v.contents ++ more)) (47 ∷ (address_text w.contents ++ rest)) room space refl refl
      (sym (append_assoc (number v.number) (47 ∷ address_text v.contents) more) ∙ tail_is e ∙ append_assoc (number w.number) (47 ∷ address_text w.contents) rest) in
      (networks.0, address_told v.contents w.contents more rest t.1.0 u.1.0 (k refl) (l refl) (tail_is networks.1))
  value_told as_type s t u k l words e =
      let r = hex_told (v.number ∷ []) (w.number ∷ []) more rest (t.0, tt) (u.0, tt) (k refl) (l refl) (ap (drop 6) e) in
      (head_is r.0, (tt, r.1))
  value_told as_list s t u k l words e = (t.0 ∙ sym u.0, (tt, ap (drop 2) e))
  value_told as_value s t u k l words e = (t.0 ∙ sym u.0, (tt, ap (drop 2) e))
  value_told as_truth s t u k l words e = (truth_told v.number w.number t.0 u.0 words, (tt, e))
  value_told as_element s t u k l words e = let r = number_told v.number w.number more rest t.0 u.0 (no_decimal more (k refl)) (no_decimal rest (l refl)) (tail_is e) in (r.0, (tt, r.1))
  value_told as_signed s t u k l words e = let r = signed_told v.number w.number more rest t.0 u.0 (no_decimal more (k refl)) (no_decimal rest (l refl)) (tail_is e) in (r.0, (tt, r.1))
  value_told as_contents s t u k l words e =
      let r = hex_told v.contents w.contents more rest t.1.0 u.1.0 (k refl) (l refl) (tail_is e) in
      let bits : HasBits v.name w.number v.contents = subst (λ (n : Name). HasBits n w.number v.contents) (sym names) (subst (λ (octets : List ℕ). HasBits w.name w.number octets) (sym r.0) u.0) in
      (number_of_contents v.name v.number w.number v.contents t.0 bits, r)
  value_told as_bits s t u k l words e =
      let r = bits_told (bits_in v.contents v.number) (bits_in w.contents w.number) more rest (k refl) (l refl) (tail_is e) in
      let same : t.0 ≡ u.0 = sym t.1.1.1.0 ∙ r.0 ∙ u.1.1.1.0 in
      (t.1.1.0 ∙ ap length same ∙ sym u.1.1.0, (t.1.0 ∙ ap packed_bits same ∙ sym u.1.0, r.1))
  value_told as_identifier s t u k l words e = let r = object_told v.number w.number more rest t.0 u.0 (no_decimal more (k refl)) (no_decimal rest (l refl)) (tail_is e) in (r.0, (tt, r.1))
  value_told as_text s t u k l words e = text_told (record { set = v.number; octets = v.contents }) (record { set = w.number; octets = w.contents }) more rest t.0 u.0 t.1.0 u.1.0 (k refl) (l refl) e
  value_told _ s t u k l words e = absurd (cc)
