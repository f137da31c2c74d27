-- What a word and the sign after it tell: the name of the field.
use Rattle.std.specs.Prelude.{◌≡◌, ◌⊎◌, ℕ, ◌<◌, ◌^◌, List, [], ◌∷◌, ◌++◌, length, Bool, true, false, ◌==◌, ◌||◌, not, nat_eq, codes, decimal, if◌then◌else◌, IsTrue, refl}
use Rattle.std.proofs.Common.{sym, ◌∙◌, ap, subst, inl, inr, arith, append_assoc}
use Rattle.std.proofs.lemmas.Bool.{and_parts, or_cases, eqb-true, both_ways, not-true}
use Rattle.std.proofs.lemmas.Fmt.{decimal_nonempty}
use Rattle.bac_value.specs.TextContents.{TextValue}
use Rattle.bac_record.specs.Digits.{hexadecimal}
use Rattle.bac_text.specs.Words.{number}
use Rattle.bac_text.specs.PrimitiveText.{is_plain}
use Rattle.bac_field_parts.specs.declared.names.Name.{Name}
use Rattle.bac_field_parts.specs.declared.names.Name.TheVariants as name
use Rattle.bac_field_parts.specs.Names.{word_of}
use Rattle.bac_field_parts.specs.Fields.{FieldValue}
use Rattle.bac_fields.specs.Line.{Form, as_word, as_number, as_object, as_octets, as_address, as_type, as_list, as_value, as_truth, as_element, as_signed, as_contents, as_bits, as_identifier, as_text, form_of, shown, begins}
use Rattle.bac_lines.specs.declared.closing.Closing.{Closing}
use Rattle.bac_lines.specs.Scanning.{each, is_decimal, is_letter, ends_field, text_tail, IsNamed, TokenIn}
use Rattle.bac_lines.specs.Found.{Among, Link, by_list, by_value, by_equals, by_colon, by_text, by_itself, by_word, sort_of, link_of, word_before, value_shown, after_word}
use Rattle.bac_lines.proofs.Digits.{decimal_digits}
use Rattle.bac_lines.proofs.BitsAndTexts.{if_plain}
use Rattle.bac_lines.proofs.NameLemmas.{numbers, lists, words, Named, named, same_word, absent, absent_from, one_name}
use Rattle.bac_lines.proofs.LinkLemmas.{held_names, equals_form, number_alone, element_names, colon_form, element_named, is_text}
use Rattle.bac_lines.proofs.WordLemmas.{not_value, word_shape, word_is, after_clear}
use Rattle.bac_lines.proofs.StartLemmas.{equals_word, colon_word}
use Rattle.bac_lines.proofs.ValueSaidLemmas.{run_told}

-- ---- the sign after a word

-- the link of a field, by what comes after the equals sign
abbrev link_after_equals : List ℕ → Link
link_after_equals [] = by_equals
link_after_equals (x ∷ more) = if x == 40 then by_list else (if x == 123 then by_value else by_equals)

-- the link of a field, by its word and what comes after it
abbrev link_in : List ℕ → List ℕ → Link
link_in word [] = by_itself
link_in word (x ∷ more) =
    if x == 61 then link_after_equals more else (if x == 58 then (if same_word (115 ∷ []) word then by_text else by_colon) else (if is_decimal x then by_text else by_itself))

-- after an equals sign, what is no parenthesis and no brace is a value
equals_link : (l : List ℕ) → ((rest : List ℕ) → 40 ∷ rest ≡ l → ⊥) → ((rest : List ℕ) → 123 ∷ rest ≡ l → ⊥) → link_after_equals l ≡ by_equals
equals_link [] p q = refl
equals_link (x ∷ l) p q = by (x == 40) (x == 123) refl refl
  where
    by : (a b : Bool) → (x == 40) ≡ a → (x == 123) ≡ b → (if a then by_list else (if b then by_value else by_equals)) ≡ by_equals
    by true b e f = absurd (p l (ap (λ (y : ℕ). y ∷ l) (sym (eqb-true x 40 e))))
    by false true e f = absurd (q l (ap (λ (y : ℕ). y ∷ l) (sym (eqb-true x 123 f))))
    by false false e f = refl

-- what is absent from names is the word of none of them
absent_among : (word : List ℕ) (names : List Name) (n : Name) → IsTrue (absent word names) → Among names n → same_word word (word_of n) ≡ false
absent_among word [] n a m = absurd m
absent_among word (one ∷ names) n a (inl is) = ap (λ (k : Name). same_word word (word_of k)) is ∙ not-true (same_word word (word_of one)) (and_parts (not (same_word word (word_of one))) (absent word names) a).0
absent_among word (one ∷ names) n a (inr m) = absent_among word names n (and_parts (not (same_word word (word_of one))) (absent word names) a).1 m

-- no name with a colon has the word of a text
colon_link : (form : Form) (n : Name) (l : List ℕ) → Named form n → link_of form ≡ by_colon → link_in (word_of n) (58 ∷ l) ≡ by_colon
colon_link form n l m k = ap (λ (b : Bool). if b then by_text else by_colon) (absent_among (115 ∷ []) element_names n refl (colon_form form n m k))

-- nothing comes after a word where the field ends
itself_link : (word more : List ℕ) → IsTrue (ends_field more) → link_in word more ≡ by_itself
itself_link word [] e = refl
itself_link word (x ∷ more) e = elim (or_cases (x == 32) ((x == 41) || (x == 125)) e) [
  | inl a ↦ subst (λ (y : ℕ). link_in word (y ∷ more) ≡ by_itself) (sym (eqb-true x 32 a)) refl
  | inr r ↦ elim (or_cases (x == 41) (x == 125) r) [
    | inl a ↦ subst (λ (y : ℕ). link_in word (y ∷ more) ≡ by_itself) (sym (eqb-true x 41 a)) refl
    | inr a ↦ subst (λ (y : ℕ). link_in word (y ∷ more) ≡ by_itself) (sym (eqb-true x 125 a)) refl
  ]
]

-- a digit is no other octet
other_than : (x y : ℕ) → is_decimal y ≡ false → IsTrue (is_decimal x) → (x == y) ≡ false
other_than x y apart d = by (x == y) refl
  where
    by : (b : Bool) → (x == y) ≡ b → b ≡ false
    by true e = absurd (both_ways (is_decimal y) apart (subst (λ (z : ℕ). IsTrue (is_decimal z)) (eqb-true x y e) d))
    by false e = refl

-- only the word of a text has digits after it
digits_link : (word digits more : List ℕ) → IsTrue (each is_decimal digits) → 0 < length digits → link_in word (digits ++ more) ≡ by_text
digits_link word [] more d some = absurd (omega (arith, some))
digits_link word (x ∷ digits) more d some =
    let first = (and_parts (is_decimal x) (each is_decimal digits) d).0 in
    rw (other_than x 61 refl first, other_than x 58 refl first, first) refl

text_link : (text : TextValue) (more : List ℕ) → text.set < 256 → link_in (115 ∷ []) (text_tail text ++ more) ≡ by_text
text_link text more small = by (is_plain text)
  where
    room : text.set < 2 ^ 64
    room = omega (arith, small)

    by : (plain : Bool) → link_in (115 ∷ []) (if_plain text plain ++ more) ≡ by_text
    by true = refl
    by false = ap (λ (l : List ℕ). link_in (115 ∷ []) l) (append_assoc (number text.set) (58 ∷ hexadecimal text.octets) more) ∙ digits_link (115 ∷ []) (decimal text.set) ((58 ∷ hexadecimal text.octets) ++ more) (decimal_digits text.set room) (decimal_nonempty text.set room)

-- so the word and what comes after it have the link of the field
link_is : (form : Form) (ends : List Closing) (v : FieldValue) (after : List Closing) (more : List ℕ) → sort_of form ≡ by_word → Named form v.name → TokenIn form ends v after → (begins form ≡ false → IsTrue (ends_field more)) → link_in (word_before form v) (after_word form v ++ more) ≡ link_of form
link_is as_word ends v after more s n t b = itself_link (word_of v.name) more (b refl)
link_is as_number ends v after more s n t b = equals_link (value_shown as_number v ++ more) (λ rest e. not_value 40 refl refl refl as_number ends v after more rest refl t (b refl) e) (λ rest e. not_value 123 refl refl refl as_number ends v after more rest refl t (b refl) e)
link_is as_object ends v after more s n t b = equals_link (value_shown as_object v ++ more) (λ rest e. not_value 40 refl refl refl as_object ends v after more rest refl t (b refl) e) (λ rest e. not_value 123 refl refl refl as_object ends v after more rest refl t (b refl) e)
link_is as_octets ends v after more s n t b = equals_link (value_shown as_octets v ++ more) (λ rest e. not_value 40 refl refl refl as_octets ends v after more rest refl t (b refl) e) (λ rest e. not_value 123 refl refl refl as_octets ends v after more rest refl t (b refl) e)
link_is as_address ends v after more s n t b = equals_link (value_shown as_address v ++ more) (λ rest e. not_value 40 refl refl refl as_address ends v after more rest refl t (b refl) e) (λ rest e. not_value 123 refl refl refl as_address ends v after more rest refl t (b refl) e)
link_is as_type ends v after more s n t b = refl
link_is as_list ends v after more s n t b = refl
link_is as_value ends v after more s n t b = refl
link_is as_truth ends v after more s n t b = itself_link (word_before as_truth v) more (b refl)
link_is as_element ends v after more s n t b = colon_link as_element v.name (value_shown as_element v ++ more) n refl
link_is as_signed ends v after more s n t b = colon_link as_signed v.name (value_shown as_signed v ++ more) n refl
link_is as_contents ends v after more s n t b = colon_link as_contents v.name (value_shown as_contents v ++ more) n refl
link_is as_bits ends v after more s n t b = colon_link as_bits v.name (value_shown as_bits v ++ more) n refl
link_is as_identifier ends v after more s n t b = colon_link as_identifier v.name (value_shown as_identifier v ++ more) n refl
link_is as_text ends v after more s n t b = text_link (record { set = v.number; octets = v.contents }) more t.0
link_is _ ends v after more s n t b = absurd (cc)

-- ---- names by their words

list_field : (form : Form) (v : FieldValue) → Named form v.name → link_of form ≡ by_list → Among lists v.name × (word_before form v ≡ word_of v.name)
list_field as_list v n k = (n, refl)
list_field _ v n k = absurd (cc)

value_field : (form : Form) (n : Name) → Named form n → link_of form ≡ by_value → n ≡ name.Value
value_field as_value n m k = m
value_field _ n m k = absurd (cc)

-- the number of a port has the word of an invoke id, which is where nothing is open
port_apart : (m n : Name) (ends : List Closing) → m ≡ name.PortId → Among numbers n → IsNamed ends m → IsNamed ends n → word_of m ≡ word_of n → ⊥
port_apart m n ends is among p q e =
    let id : n ≡ name.InvokeId = one_name numbers n name.InvokeId refl among (inr (inr (inl refl))) (sym e ∙ ap word_of is) in
    let inside : IsNamed ends name.PortId = subst (λ (k : Name). IsNamed ends k) is p in
    let outside : IsNamed ends name.InvokeId = subst (λ (k : Name). IsNamed ends k) id q in
    inside outside

-- names with a number, by their word and by whether something is open
number_one : (m n : Name) (ends : List Closing) → Named as_number m → Named as_number n → IsNamed ends m → IsNamed ends n → word_of m ≡ word_of n → m ≡ n
number_one m n ends (inl a) (inl b) p q e = a ∙ sym b
number_one m n ends (inl a) (inr b) p q e = absurd (port_apart m n ends a b p q e)
number_one m n ends (inr a) (inl b) p q e = absurd (port_apart n m ends b a q p (sym e))
number_one m n ends (inr a) (inr b) p q e = one_name numbers m n refl a b e

-- the names of fields that are a word by itself
abbrev lone_words : List Name
lone_words = name.NetworkMessage ∷ words

abbrev IsTruth : List ℕ → Type 0
IsTruth word = (word ≡ codes "false") ⊎ (word ≡ codes "true")

truth_is : (n : ℕ) → IsTruth (if nat_eq n 0 then codes "false" else codes "true")
truth_is n = by (nat_eq n 0)
  where
    by : (zero_is : Bool) → IsTruth (if zero_is then codes "false" else codes "true")
    by true = inl refl
    by false = inr refl

abbrev Lone : Form → FieldValue → Type 0
Lone form v = (Among lone_words v.name × (word_before form v ≡ word_of v.name)) ⊎ ((v.name ≡ name.Boolean) × IsTruth (word_before form v))

lone_field : (form : Form) (v : FieldValue) → sort_of form ≡ by_word → Named form v.name → link_of form ≡ by_itself → Lone form v
lone_field as_word v s n k = inl (inr n, refl)
lone_field as_type v s n k = inl (inl n, refl)
lone_field as_truth v s n k = inr (n, truth_is v.number)
lone_field _ v s n k = absurd (cc)

-- no other word by itself is a truth value
no_truth : (n : Name) (word : List ℕ) → Among lone_words n → word ≡ word_of n → IsTruth word → ⊥
no_truth n word among e (inl f) = absent_from (codes "false") lone_words n refl among (sym f ∙ e)
no_truth n word among e (inr f) = absent_from (codes "true") lone_words n refl among (sym f ∙ e)

lone_one : (F G : Form) (v w : FieldValue) → Lone F v → Lone G w → word_before F v ≡ word_before G w → v.name ≡ w.name
lone_one F G v w (inl a) (inl b) e = one_name lone_words v.name w.name refl a.0 b.0 (sym a.1 ∙ e ∙ b.1)
lone_one F G v w (inl a) (inr b) e = absurd (no_truth v.name (word_before G w) a.0 (sym e ∙ a.1) b.1)
lone_one F G v w (inr a) (inl b) e = absurd (no_truth w.name (word_before F v) b.0 (e ∙ b.1) a.1)
lone_one F G v w (inr a) (inr b) e = a.0 ∙ sym b.0

-- ---- two fields that begin with a word

-- the word of a field, and all that comes after it
word_first : (form : Form) (v : FieldValue) (more : List ℕ) → sort_of form ≡ by_word → shown form v ++ more ≡ word_before form v ++ (after_word form v ++ more)
word_first form v more s = ap (λ (l : List ℕ). l ++ more) (word_shape form v s) ∙ append_assoc (word_before form v) (after_word form v) more

module _ (v w : FieldValue) (ends after later : List Closing) (t : TokenIn (form_of v.name) ends v after) (u : TokenIn (form_of w.name) ends w later) where
  abbrev F : Form
  F = form_of v.name

  abbrev G : Form
  G = form_of w.name

  -- after an equals sign
  equals_one : link_of F ≡ by_equals → link_of G ≡ by_equals → word_of v.name ≡ word_of w.name → v.name ≡ w.name
  equals_one k l e = either (equals_form F v.name (named v.name) k) (equals_form G w.name (named w.name) l)
    where
      either : (F ≡ as_number) ⊎ Among held_names v.name → (G ≡ as_number) ⊎ Among held_names w.name → v.name ≡ w.name
      either (inl f) (inl g) =
          let p : TokenIn as_number ends v after = subst (λ (H : Form). TokenIn H ends v after) f t in
          let q : TokenIn as_number ends w later = subst (λ (H : Form). TokenIn H ends w later) g u in
          number_one v.name w.name ends (subst (λ (H : Form). Named H v.name) f (named v.name)) (subst (λ (H : Form). Named H w.name) g (named w.name)) p.1.0 q.1.0 e
      either (inl f) (inr b) = absurd (number_alone v.name w.name f b e)
      either (inr a) (inl g) = absurd (number_alone w.name v.name g a (sym e))
      either (inr a) (inr b) = one_name held_names v.name w.name refl a b e

  -- the same word and the same link are of one name
  name_one : (link : Link) → sort_of F ≡ by_word → sort_of G ≡ by_word → link_of F ≡ link → link_of G ≡ link → word_before F v ≡ word_before G w → v.name ≡ w.name
  name_one by_list r s k l e =
      let p = list_field F v (named v.name) k in
      let q = list_field G w (named w.name) l in
      one_name lists v.name w.name refl p.0 q.0 (sym p.1 ∙ e ∙ q.1)
  name_one by_value r s k l e = value_field F v.name (named v.name) k ∙ sym (value_field G w.name (named w.name) l)
  name_one by_equals r s k l e = equals_one k l (sym (equals_word F v k) ∙ e ∙ equals_word G w l)
  name_one by_colon r s k l e = element_named v.name w.name k (colon_form G w.name (named w.name) l) (sym (colon_word F v k) ∙ e ∙ colon_word G w l)
  name_one by_text r s k l e = (is_text v.name k).0 ∙ sym (is_text w.name l).0
  name_one by_itself r s k l e = lone_one F G v w (lone_field F v r (named v.name) k) (lone_field G w s (named w.name) l) e

  -- What is shown of two fields tells their word, their name, and what comes after the word.
  pub name_told : (more rest : List ℕ) → sort_of F ≡ by_word → sort_of G ≡ by_word → (begins F ≡ false → IsTrue (ends_field more)) → (begins G ≡ false → IsTrue (ends_field rest)) → shown F v ++ more ≡ shown G w ++ rest
      → (v.name ≡ w.name) × ((word_before F v ≡ word_before G w) × (after_word F v ++ more ≡ after_word G w ++ rest))
  name_told more rest r s b d e =
      let run = run_told is_letter (word_before F v) (word_before G w) (after_word F v ++ more) (after_word G w ++ rest) (word_is F v r).letters (word_is G w s).letters (after_clear F ends v after more r t b) (after_clear G ends w later rest s u d)
      (sym (word_first F v more r) ∙ e ∙ word_first G w rest s) in
      let links : link_of F ≡ link_of G = sym (link_is F ends v after more r (named v.name) t b) ∙ ap (λ (word : List ℕ). link_in word (after_word F v ++ more)) run.0 ∙ ap (λ (l : List ℕ). link_in (word_before G w) l) run.1 ∙ link_is G ends w later rest s (named w.name) u d in
      (name_one (link_of G) r s links refl run.0, run)
