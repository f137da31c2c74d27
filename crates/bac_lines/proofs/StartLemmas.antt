-- With what the fields of a line begin.
use Rattle.std.specs.Prelude.{◌≡◌, ◌⊎◌, ℕ, ◌<◌, ◌^◌, List, [], ◌∷◌, ◌++◌, length, Bool, true, false, if◌then◌else◌, IsTrue, refl}
use Rattle.std.specs.Fmt.{decimal}
use Rattle.std.proofs.Common.{sym, ◌∙◌, ap, subst, inl, inr, arith, append_assoc}
use Rattle.std.proofs.lemmas.Bool.{both_ways, and_parts}
use Rattle.std.proofs.lemmas.Fmt.{decimal_nonempty}
use Rattle.bac_text.specs.WalkText.{blank}
use Rattle.bac_field_parts.specs.Fields.{FieldValue}
use Rattle.bac_fields.specs.Line.{Form, as_word, as_number, as_object, as_octets, as_address, as_type, as_network, as_list, as_item, as_value, as_group, as_parenthesis, as_brace, as_truth, as_element, as_signed, as_contents, as_bits, as_identifier, as_text, as_context, form_of, shown, begins, lead, printed_from}
use Rattle.bac_lines.specs.declared.closing.Closing.{Closing}
use Rattle.bac_lines.specs.Scanning.{TokenIn, open_end, is_decimal, is_letter, each, ends_field}
use Rattle.bac_lines.specs.Found.{ending, Sort, by_end, by_parenthesis, by_bracket, by_digit, by_word, sort_of, Link, by_equals, by_colon, link_of, word_before, value_shown, after_word}
use Rattle.bac_field_parts.specs.Names.{number_of, word_of}
use Rattle.bac_field_parts.specs.declared.names.Name.{Name}
use Rattle.bac_field_parts.specs.declared.names.Name.TheVariants as name
use Rattle.bac_field_parts.specs.Symbols.{has_contents}
use Rattle.bac_lines.proofs.Digits.{decimal_digits}
use Rattle.bac_lines.proofs.WordLemmas.{word_shape, word_is, apart_numbers, not_nil}

-- ---- links

abbrev is_equals : Link → Bool
is_equals by_equals = true
is_equals _ = false

not_equals : (link : Link) → is_equals link ≡ false → link ≡ by_equals → ⊥
not_equals link d e = both_ways (is_equals link) d (subst (λ (l : Link). IsTrue (is_equals l)) (sym e) refl)

pub equals_after : (form : Form) (v : FieldValue) → link_of form ≡ by_equals → after_word form v ≡ 61 ∷ value_shown form v
equals_after as_word v k = absurd (not_equals (link_of as_word) refl k)
equals_after as_number v k = refl
equals_after as_object v k = refl
equals_after as_octets v k = refl
equals_after as_address v k = refl
equals_after as_type v k = absurd (not_equals (link_of as_type) refl k)
equals_after as_network v k = absurd (not_equals (link_of as_network) refl k)
equals_after as_list v k = absurd (not_equals (link_of as_list) refl k)
equals_after as_item v k = absurd (not_equals (link_of as_item) refl k)
equals_after as_value v k = absurd (not_equals (link_of as_value) refl k)
equals_after as_group v k = absurd (not_equals (link_of as_group) refl k)
equals_after as_parenthesis v k = absurd (not_equals (link_of as_parenthesis) refl k)
equals_after as_brace v k = absurd (not_equals (link_of as_brace) refl k)
equals_after as_truth v k = absurd (not_equals (link_of as_truth) refl k)
equals_after as_element v k = absurd (not_equals (link_of as_element) refl k)
equals_after as_signed v k = absurd (not_equals (link_of as_signed) refl k)
equals_after as_contents v k = absurd (not_equals (link_of as_contents) refl k)
equals_after as_bits v k = absurd (not_equals (link_of as_bits) refl k)
equals_after as_identifier v k = absurd (not_equals (link_of as_identifier) refl k)
equals_after as_text v k = absurd (not_equals (link_of as_text) refl k)
equals_after as_context v k = absurd (not_equals (link_of as_context) refl k)

pub equals_word : (form : Form) (v : FieldValue) → link_of form ≡ by_equals → word_before form v ≡ word_of v.name
equals_word as_word v k = absurd (not_equals (link_of as_word) refl k)
equals_word as_number v k = refl
equals_word as_object v k = refl
equals_word as_octets v k = refl
equals_word as_address v k = refl
equals_word as_type v k = absurd (not_equals (link_of as_type) refl k)
equals_word as_network v k = absurd (not_equals (link_of as_network) refl k)
equals_word as_list v k = absurd (not_equals (link_of as_list) refl k)
equals_word as_item v k = absurd (not_equals (link_of as_item) refl k)
equals_word as_value v k = absurd (not_equals (link_of as_value) refl k)
equals_word as_group v k = absurd (not_equals (link_of as_group) refl k)
equals_word as_parenthesis v k = absurd (not_equals (link_of as_parenthesis) refl k)
equals_word as_brace v k = absurd (not_equals (link_of as_brace) refl k)
equals_word as_truth v k = absurd (not_equals (link_of as_truth) refl k)
equals_word as_element v k = absurd (not_equals (link_of as_element) refl k)
equals_word as_signed v k = absurd (not_equals (link_of as_signed) refl k)
equals_word as_contents v k = absurd (not_equals (link_of as_contents) refl k)
equals_word as_bits v k = absurd (not_equals (link_of as_bits) refl k)
equals_word as_identifier v k = absurd (not_equals (link_of as_identifier) refl k)
equals_word as_text v k = absurd (not_equals (link_of as_text) refl k)
equals_word as_context v k = absurd (not_equals (link_of as_context) refl k)

pub equals_begins : (form : Form) (v : FieldValue) → link_of form ≡ by_equals → begins form ≡ false
equals_begins as_word v k = absurd (not_equals (link_of as_word) refl k)
equals_begins as_number v k = refl
equals_begins as_object v k = refl
equals_begins as_octets v k = refl
equals_begins as_address v k = refl
equals_begins as_type v k = absurd (not_equals (link_of as_type) refl k)
equals_begins as_network v k = absurd (not_equals (link_of as_network) refl k)
equals_begins as_list v k = absurd (not_equals (link_of as_list) refl k)
equals_begins as_item v k = absurd (not_equals (link_of as_item) refl k)
equals_begins as_value v k = absurd (not_equals (link_of as_value) refl k)
equals_begins as_group v k = absurd (not_equals (link_of as_group) refl k)
equals_begins as_parenthesis v k = absurd (not_equals (link_of as_parenthesis) refl k)
equals_begins as_brace v k = absurd (not_equals (link_of as_brace) refl k)
equals_begins as_truth v k = absurd (not_equals (link_of as_truth) refl k)
equals_begins as_element v k = absurd (not_equals (link_of as_element) refl k)
equals_begins as_signed v k = absurd (not_equals (link_of as_signed) refl k)
equals_begins as_contents v k = absurd (not_equals (link_of as_contents) refl k)
equals_begins as_bits v k = absurd (not_equals (link_of as_bits) refl k)
equals_begins as_identifier v k = absurd (not_equals (link_of as_identifier) refl k)
equals_begins as_text v k = absurd (not_equals (link_of as_text) refl k)
equals_begins as_context v k = absurd (not_equals (link_of as_context) refl k)

abbrev is_colon : Link → Bool
is_colon by_colon = true
is_colon _ = false

not_colon : (link : Link) → is_colon link ≡ false → link ≡ by_colon → ⊥
not_colon link d e = both_ways (is_colon link) d (subst (λ (l : Link). IsTrue (is_colon l)) (sym e) refl)

pub colon_after : (form : Form) (v : FieldValue) → link_of form ≡ by_colon → after_word form v ≡ 58 ∷ value_shown form v
colon_after as_word v k = absurd (not_colon (link_of as_word) refl k)
colon_after as_number v k = absurd (not_colon (link_of as_number) refl k)
colon_after as_object v k = absurd (not_colon (link_of as_object) refl k)
colon_after as_octets v k = absurd (not_colon (link_of as_octets) refl k)
colon_after as_address v k = absurd (not_colon (link_of as_address) refl k)
colon_after as_type v k = absurd (not_colon (link_of as_type) refl k)
colon_after as_network v k = absurd (not_colon (link_of as_network) refl k)
colon_after as_list v k = absurd (not_colon (link_of as_list) refl k)
colon_after as_item v k = absurd (not_colon (link_of as_item) refl k)
colon_after as_value v k = absurd (not_colon (link_of as_value) refl k)
colon_after as_group v k = absurd (not_colon (link_of as_group) refl k)
colon_after as_parenthesis v k = absurd (not_colon (link_of as_parenthesis) refl k)
colon_after as_brace v k = absurd (not_colon (link_of as_brace) refl k)
colon_after as_truth v k = absurd (not_colon (link_of as_truth) refl k)
colon_after as_element v k = refl
colon_after as_signed v k = refl
colon_after as_contents v k = refl
colon_after as_bits v k = refl
colon_after as_identifier v k = refl
colon_after as_text v k = absurd (not_colon (link_of as_text) refl k)
colon_after as_context v k = absurd (not_colon (link_of as_context) refl k)

pub colon_word : (form : Form) (v : FieldValue) → link_of form ≡ by_colon → word_before form v ≡ word_of v.name
colon_word as_word v k = absurd (not_colon (link_of as_word) refl k)
colon_word as_number v k = absurd (not_colon (link_of as_number) refl k)
colon_word as_object v k = absurd (not_colon (link_of as_object) refl k)
colon_word as_octets v k = absurd (not_colon (link_of as_octets) refl k)
colon_word as_address v k = absurd (not_colon (link_of as_address) refl k)
colon_word as_type v k = absurd (not_colon (link_of as_type) refl k)
colon_word as_network v k = absurd (not_colon (link_of as_network) refl k)
colon_word as_list v k = absurd (not_colon (link_of as_list) refl k)
colon_word as_item v k = absurd (not_colon (link_of as_item) refl k)
colon_word as_value v k = absurd (not_colon (link_of as_value) refl k)
colon_word as_group v k = absurd (not_colon (link_of as_group) refl k)
colon_word as_parenthesis v k = absurd (not_colon (link_of as_parenthesis) refl k)
colon_word as_brace v k = absurd (not_colon (link_of as_brace) refl k)
colon_word as_truth v k = absurd (not_colon (link_of as_truth) refl k)
colon_word as_element v k = refl
colon_word as_signed v k = refl
colon_word as_contents v k = refl
colon_word as_bits v k = refl
colon_word as_identifier v k = refl
colon_word as_text v k = absurd (not_colon (link_of as_text) refl k)
colon_word as_context v k = absurd (not_colon (link_of as_context) refl k)

pub colon_begins : (form : Form) (v : FieldValue) → link_of form ≡ by_colon → begins form ≡ false
colon_begins as_word v k = absurd (not_colon (link_of as_word) refl k)
colon_begins as_number v k = absurd (not_colon (link_of as_number) refl k)
colon_begins as_object v k = absurd (not_colon (link_of as_object) refl k)
colon_begins as_octets v k = absurd (not_colon (link_of as_octets) refl k)
colon_begins as_address v k = absurd (not_colon (link_of as_address) refl k)
colon_begins as_type v k = absurd (not_colon (link_of as_type) refl k)
colon_begins as_network v k = absurd (not_colon (link_of as_network) refl k)
colon_begins as_list v k = absurd (not_colon (link_of as_list) refl k)
colon_begins as_item v k = absurd (not_colon (link_of as_item) refl k)
colon_begins as_value v k = absurd (not_colon (link_of as_value) refl k)
colon_begins as_group v k = absurd (not_colon (link_of as_group) refl k)
colon_begins as_parenthesis v k = absurd (not_colon (link_of as_parenthesis) refl k)
colon_begins as_brace v k = absurd (not_colon (link_of as_brace) refl k)
colon_begins as_truth v k = absurd (not_colon (link_of as_truth) refl k)
colon_begins as_element v k = refl
colon_begins as_signed v k = refl
colon_begins as_contents v k = refl
colon_begins as_bits v k = refl
colon_begins as_identifier v k = refl
colon_begins as_text v k = absurd (not_colon (link_of as_text) refl k)
colon_begins as_context v k = absurd (not_colon (link_of as_context) refl k)

pub colon_sort : (form : Form) → link_of form ≡ by_colon → sort_of form ≡ by_word
colon_sort as_word k = absurd (not_colon (link_of as_word) refl k)
colon_sort as_number k = absurd (not_colon (link_of as_number) refl k)
colon_sort as_object k = absurd (not_colon (link_of as_object) refl k)
colon_sort as_octets k = absurd (not_colon (link_of as_octets) refl k)
colon_sort as_address k = absurd (not_colon (link_of as_address) refl k)
colon_sort as_type k = absurd (not_colon (link_of as_type) refl k)
colon_sort as_network k = absurd (not_colon (link_of as_network) refl k)
colon_sort as_list k = absurd (not_colon (link_of as_list) refl k)
colon_sort as_item k = absurd (not_colon (link_of as_item) refl k)
colon_sort as_value k = absurd (not_colon (link_of as_value) refl k)
colon_sort as_group k = absurd (not_colon (link_of as_group) refl k)
colon_sort as_parenthesis k = absurd (not_colon (link_of as_parenthesis) refl k)
colon_sort as_brace k = absurd (not_colon (link_of as_brace) refl k)
colon_sort as_truth k = absurd (not_colon (link_of as_truth) refl k)
colon_sort as_element k = refl
colon_sort as_signed k = refl
colon_sort as_contents k = refl
colon_sort as_bits k = refl
colon_sort as_identifier k = refl
colon_sort as_text k = absurd (not_colon (link_of as_text) refl k)
colon_sort as_context k = absurd (not_colon (link_of as_context) refl k)

-- ---- sorts

-- what the first octet of a field is, by its sort
abbrev pub HasSort : Sort → ℕ → Type 0
HasSort by_end x = (x ≡ 41) ⊎ (x ≡ 125)
HasSort by_parenthesis x = x ≡ 40
HasSort by_bracket x = x ≡ 91
HasSort by_digit x = IsTrue (is_decimal x)
HasSort by_word x = IsTrue (is_letter x)

pub record Begins (sort : Sort) (l : List ℕ) : Type 0 where
  pub first : ℕ
  pub rest : List ℕ
  pub is : l ≡ first ∷ rest
  pub looks : HasSort sort first

number_begins : (ds more : List ℕ) → IsTrue (each is_decimal ds) → 0 < length ds → Begins by_digit (ds ++ more)
number_begins [] more d some = absurd (omega (arith, some))
number_begins (x ∷ ds) more d some = record { first = x; rest = ds ++ more; is = refl; looks = (and_parts (is_decimal x) (each is_decimal ds) d).0 }

word_begins : (form : Form) (v : FieldValue) (more : List ℕ) → sort_of form ≡ by_word → Begins by_word (shown form v ++ more)
word_begins form v more s =
    let word = word_is form v s in
    record {
      first = word.first;
      rest = word.others ++ (after_word form v ++ more);
      is = ap (λ (l : List ℕ). l ++ more) (word_shape form v s) ∙ append_assoc (word_before form v) (after_word form v) more ∙ ap (λ (l : List ℕ). l ++ (after_word form v ++ more)) word.is;
      looks = word.begins;
    }

pub shown_begins : (form : Form) (ends : List Closing) (v : FieldValue) (after : List Closing) (more : List ℕ) → TokenIn form ends v after → Begins (sort_of form) (shown form v ++ more)
shown_begins as_word ends v after more t = word_begins as_word v more refl
shown_begins as_number ends v after more t = word_begins as_number v more refl
shown_begins as_object ends v after more t = word_begins as_object v more refl
shown_begins as_octets ends v after more t = word_begins as_octets v more refl
shown_begins as_address ends v after more t = word_begins as_address v more refl
shown_begins as_type ends v after more t = word_begins as_type v more refl
shown_begins as_network ends v after more t = let small : v.number < 2 ^ 64 = omega (arith, t.0) in number_begins (decimal v.number) more (decimal_digits v.number small) (decimal_nonempty v.number small)
shown_begins as_list ends v after more t = word_begins as_list v more refl
shown_begins as_item ends v after more t = record { first = 40; rest = more; is = refl; looks = refl }
shown_begins as_value ends v after more t = word_begins as_value v more refl
shown_begins as_group ends v after more t = record { first = 91; rest = _; is = refl; looks = refl }
shown_begins as_parenthesis ends v after more t = record { first = 41; rest = more; is = refl; looks = inl refl }
shown_begins as_brace ends v after more t = record { first = 125; rest = more; is = refl; looks = inr refl }
shown_begins as_truth ends v after more t = word_begins as_truth v more refl
shown_begins as_element ends v after more t = word_begins as_element v more refl
shown_begins as_signed ends v after more t = word_begins as_signed v more refl
shown_begins as_contents ends v after more t = word_begins as_contents v more refl
shown_begins as_bits ends v after more t = word_begins as_bits v more refl
shown_begins as_identifier ends v after more t = word_begins as_identifier v more refl
shown_begins as_text ends v after more t = word_begins as_text v more refl
shown_begins as_context ends v after more t = record { first = 91; rest = _; is = refl; looks = refl }

-- the sort, by the first octet
pub sort_40 : (sort : Sort) (x : ℕ) → x ≡ 40 → HasSort sort x → sort ≡ by_parenthesis
sort_40 by_end x e (inl f) = absurd (apart_numbers 40 41 refl (sym e ∙ f))
sort_40 by_end x e (inr f) = absurd (apart_numbers 40 125 refl (sym e ∙ f))
sort_40 by_parenthesis x e h = refl
sort_40 by_bracket x e h = absurd (apart_numbers 40 91 refl (sym e ∙ h))
sort_40 by_digit x e h = absurd (both_ways (is_decimal 40) refl (subst (λ (y : ℕ). IsTrue (is_decimal y)) e h))
sort_40 by_word x e h = absurd (both_ways (is_letter 40) refl (subst (λ (y : ℕ). IsTrue (is_letter y)) e h))

pub sort_91 : (sort : Sort) (x : ℕ) → x ≡ 91 → HasSort sort x → sort ≡ by_bracket
sort_91 by_end x e (inl f) = absurd (apart_numbers 91 41 refl (sym e ∙ f))
sort_91 by_end x e (inr f) = absurd (apart_numbers 91 125 refl (sym e ∙ f))
sort_91 by_parenthesis x e h = absurd (apart_numbers 91 40 refl (sym e ∙ h))
sort_91 by_bracket x e h = refl
sort_91 by_digit x e h = absurd (both_ways (is_decimal 91) refl (subst (λ (y : ℕ). IsTrue (is_decimal y)) e h))
sort_91 by_word x e h = absurd (both_ways (is_letter 91) refl (subst (λ (y : ℕ). IsTrue (is_letter y)) e h))

pub sort_word : (sort : Sort) (x : ℕ) → (x ≡ 40 → ⊥) → (x ≡ 91 → ⊥) → is_decimal x ≡ false → (sort ≡ by_end → ⊥) → HasSort sort x → sort ≡ by_word
sort_word by_end x p b d e h = absurd (e refl)
sort_word by_parenthesis x p b d e h = absurd (p h)
sort_word by_bracket x p b d e h = absurd (b h)
sort_word by_digit x p b d e h = absurd (both_ways (is_decimal x) d h)
sort_word by_word x p b d e h = refl

-- an end
pub sort_end : (sort : Sort) (x : ℕ) → (x ≡ 41) ⊎ (x ≡ 125) → HasSort sort x → sort ≡ by_end
sort_end by_end x e h = refl
sort_end by_parenthesis x (inl e) h = absurd (apart_numbers 41 40 refl (sym e ∙ h))
sort_end by_parenthesis x (inr e) h = absurd (apart_numbers 125 40 refl (sym e ∙ h))
sort_end by_bracket x (inl e) h = absurd (apart_numbers 41 91 refl (sym e ∙ h))
sort_end by_bracket x (inr e) h = absurd (apart_numbers 125 91 refl (sym e ∙ h))
sort_end by_digit x (inl e) h = absurd (both_ways (is_decimal 41) refl (subst (λ (y : ℕ). IsTrue (is_decimal y)) e h))
sort_end by_digit x (inr e) h = absurd (both_ways (is_decimal 125) refl (subst (λ (y : ℕ). IsTrue (is_decimal y)) e h))
sort_end by_word x (inl e) h = absurd (both_ways (is_letter 41) refl (subst (λ (y : ℕ). IsTrue (is_letter y)) e h))
sort_end by_word x (inr e) h = absurd (both_ways (is_letter 125) refl (subst (λ (y : ℕ). IsTrue (is_letter y)) e h))

-- ---- forms by their sort

abbrev pub FormsOf : Sort → Form → Type 0
FormsOf by_end form = (form ≡ as_parenthesis) ⊎ (form ≡ as_brace)
FormsOf by_parenthesis form = form ≡ as_item
FormsOf by_bracket form = (form ≡ as_group) ⊎ (form ≡ as_context)
FormsOf by_digit form = form ≡ as_network
FormsOf by_word form = Unit {0}

forms_of : (form : Form) → FormsOf (sort_of form) form
forms_of as_word = tt
forms_of as_number = tt
forms_of as_object = tt
forms_of as_octets = tt
forms_of as_address = tt
forms_of as_type = tt
forms_of as_network = refl
forms_of as_list = tt
forms_of as_item = refl
forms_of as_value = tt
forms_of as_group = inl refl
forms_of as_parenthesis = inl refl
forms_of as_brace = inr refl
forms_of as_truth = tt
forms_of as_element = tt
forms_of as_signed = tt
forms_of as_contents = tt
forms_of as_bits = tt
forms_of as_identifier = tt
forms_of as_text = tt
forms_of as_context = inr refl

pub form_with : (sort : Sort) (form : Form) → sort_of form ≡ sort → FormsOf sort form
form_with sort form e = subst (λ (s : Sort). FormsOf s form) e (forms_of form)

-- the blank before a field
pub lead_of : (first : Bool) (form : Form) → (sort_of form ≡ by_end → ⊥) → lead first form ≡ blank first
lead_of first as_word e = refl
lead_of first as_number e = refl
lead_of first as_object e = refl
lead_of first as_octets e = refl
lead_of first as_address e = refl
lead_of first as_type e = refl
lead_of first as_network e = refl
lead_of first as_list e = refl
lead_of first as_item e = refl
lead_of first as_value e = refl
lead_of first as_group e = refl
lead_of first as_parenthesis e = absurd (e refl)
lead_of first as_brace e = absurd (e refl)
lead_of first as_truth e = refl
lead_of first as_element e = refl
lead_of first as_signed e = refl
lead_of first as_contents e = refl
lead_of first as_bits e = refl
lead_of first as_identifier e = refl
lead_of first as_text e = refl
lead_of first as_context e = refl

-- ---- a field with the blank before it

abbrev pub is_end_sort : Sort → Bool
is_end_sort by_end = true
is_end_sort _ = false

pub not_end_sort : (sort : Sort) → is_end_sort sort ≡ false → sort ≡ by_end → ⊥
not_end_sort sort d e = both_ways (is_end_sort sort) d (subst (λ (s : Sort). IsTrue (is_end_sort s)) (sym e) refl)

-- an end, or what is the first of something, or what comes after a blank
abbrev pub Whole : Bool → Form → FieldValue → List ℕ → List ℕ → Type 0
Whole first form v more l =
    ((sort_of form ≡ by_end) × (l ≡ shown form v ++ more))
    ⊎ (((sort_of form ≡ by_end → ⊥) × ((first ≡ true) × (l ≡ shown form v ++ more))) ⊎ ((sort_of form ≡ by_end → ⊥) × ((first ≡ false) × (l ≡ 32 ∷ (shown form v ++ more)))))

pub whole_of : (first : Bool) (form : Form) (v : FieldValue) (more : List ℕ) → Whole first form v more ((lead first form ++ shown form v) ++ more)
whole_of true as_word v more = inr (inl (not_end_sort (sort_of as_word) refl, (refl, refl)))
whole_of false as_word v more = inr (inr (not_end_sort (sort_of as_word) refl, (refl, refl)))
whole_of true as_number v more = inr (inl (not_end_sort (sort_of as_number) refl, (refl, refl)))
whole_of false as_number v more = inr (inr (not_end_sort (sort_of as_number) refl, (refl, refl)))
whole_of true as_object v more = inr (inl (not_end_sort (sort_of as_object) refl, (refl, refl)))
whole_of false as_object v more = inr (inr (not_end_sort (sort_of as_object) refl, (refl, refl)))
whole_of true as_octets v more = inr (inl (not_end_sort (sort_of as_octets) refl, (refl, refl)))
whole_of false as_octets v more = inr (inr (not_end_sort (sort_of as_octets) refl, (refl, refl)))
whole_of true as_address v more = inr (inl (not_end_sort (sort_of as_address) refl, (refl, refl)))
whole_of false as_address v more = inr (inr (not_end_sort (sort_of as_address) refl, (refl, refl)))
whole_of true as_type v more = inr (inl (not_end_sort (sort_of as_type) refl, (refl, refl)))
whole_of false as_type v more = inr (inr (not_end_sort (sort_of as_type) refl, (refl, refl)))
whole_of true as_network v more = inr (inl (not_end_sort (sort_of as_network) refl, (refl, refl)))
whole_of false as_network v more = inr (inr (not_end_sort (sort_of as_network) refl, (refl, refl)))
whole_of true as_list v more = inr (inl (not_end_sort (sort_of as_list) refl, (refl, refl)))
whole_of false as_list v more = inr (inr (not_end_sort (sort_of as_list) refl, (refl, refl)))
whole_of true as_item v more = inr (inl (not_end_sort (sort_of as_item) refl, (refl, refl)))
whole_of false as_item v more = inr (inr (not_end_sort (sort_of as_item) refl, (refl, refl)))
whole_of true as_value v more = inr (inl (not_end_sort (sort_of as_value) refl, (refl, refl)))
whole_of false as_value v more = inr (inr (not_end_sort (sort_of as_value) refl, (refl, refl)))
whole_of true as_group v more = inr (inl (not_end_sort (sort_of as_group) refl, (refl, refl)))
whole_of false as_group v more = inr (inr (not_end_sort (sort_of as_group) refl, (refl, refl)))
whole_of first as_parenthesis v more = inl (refl, refl)
whole_of first as_brace v more = inl (refl, refl)
whole_of true as_truth v more = inr (inl (not_end_sort (sort_of as_truth) refl, (refl, refl)))
whole_of false as_truth v more = inr (inr (not_end_sort (sort_of as_truth) refl, (refl, refl)))
whole_of true as_element v more = inr (inl (not_end_sort (sort_of as_element) refl, (refl, refl)))
whole_of false as_element v more = inr (inr (not_end_sort (sort_of as_element) refl, (refl, refl)))
whole_of true as_signed v more = inr (inl (not_end_sort (sort_of as_signed) refl, (refl, refl)))
whole_of false as_signed v more = inr (inr (not_end_sort (sort_of as_signed) refl, (refl, refl)))
whole_of true as_contents v more = inr (inl (not_end_sort (sort_of as_contents) refl, (refl, refl)))
whole_of false as_contents v more = inr (inr (not_end_sort (sort_of as_contents) refl, (refl, refl)))
whole_of true as_bits v more = inr (inl (not_end_sort (sort_of as_bits) refl, (refl, refl)))
whole_of false as_bits v more = inr (inr (not_end_sort (sort_of as_bits) refl, (refl, refl)))
whole_of true as_identifier v more = inr (inl (not_end_sort (sort_of as_identifier) refl, (refl, refl)))
whole_of false as_identifier v more = inr (inr (not_end_sort (sort_of as_identifier) refl, (refl, refl)))
whole_of true as_text v more = inr (inl (not_end_sort (sort_of as_text) refl, (refl, refl)))
whole_of false as_text v more = inr (inr (not_end_sort (sort_of as_text) refl, (refl, refl)))
whole_of true as_context v more = inr (inl (not_end_sort (sort_of as_context) refl, (refl, refl)))
whole_of false as_context v more = inr (inr (not_end_sort (sort_of as_context) refl, (refl, refl)))

pub whole_some : (first : Bool) (form : Form) (ends : List Closing) (v : FieldValue) (after : List Closing) (more : List ℕ) → TokenIn form ends v after → [] ≡ (lead first form ++ shown form v) ++ more → ⊥
whole_some first form ends v after more t e =
    let b = shown_begins form ends v after more t in
    elim (whole_of first form v more) [
      | inl w ↦ not_nil (e ∙ w.1 ∙ b.is)
      | inr r ↦ elim r [
        | inl w ↦ not_nil (e ∙ w.1.1 ∙ b.is)
        | inr w ↦ not_nil (e ∙ w.1.1)
      ]
    ]

-- what comes after a field that begins nothing
field_ends : (form : Form) (v : FieldValue) (l : List ℕ) → IsTrue (ends_field ((lead false form ++ shown form v) ++ l))
field_ends as_word v l = refl
field_ends as_number v l = refl
field_ends as_object v l = refl
field_ends as_octets v l = refl
field_ends as_address v l = refl
field_ends as_type v l = refl
field_ends as_network v l = refl
field_ends as_list v l = refl
field_ends as_item v l = refl
field_ends as_value v l = refl
field_ends as_group v l = refl
field_ends as_parenthesis v l = refl
field_ends as_brace v l = refl
field_ends as_truth v l = refl
field_ends as_element v l = refl
field_ends as_signed v l = refl
field_ends as_contents v l = refl
field_ends as_bits v l = refl
field_ends as_identifier v l = refl
field_ends as_text v l = refl
field_ends as_context v l = refl

pub printed_ends : (vs : List FieldValue) → IsTrue (ends_field (printed_from false vs))
printed_ends [] = refl
printed_ends (v ∷ vs) = field_ends (form_of v.name) v (printed_from (begins (form_of v.name)) vs)

-- ---- ends have no contents

pub parenthesis_bare : (n : Name) → form_of n ≡ as_parenthesis → has_contents (number_of n) ≡ false
parenthesis_bare name.NetworkPriority e = absurd (cc)
parenthesis_bare name.ReplyExpected e = absurd (cc)
parenthesis_bare name.Destination e = absurd (cc)
parenthesis_bare name.HopCount e = absurd (cc)
parenthesis_bare name.Source e = absurd (cc)
parenthesis_bare name.ConfirmedRequest e = absurd (cc)
parenthesis_bare name.UnconfirmedRequest e = absurd (cc)
parenthesis_bare name.SimpleAck e = absurd (cc)
parenthesis_bare name.ComplexAck e = absurd (cc)
parenthesis_bare name.SegmentAck e = absurd (cc)
parenthesis_bare name.Error e = absurd (cc)
parenthesis_bare name.Reject e = absurd (cc)
parenthesis_bare name.Abort e = absurd (cc)
parenthesis_bare name.RequestSegment e = absurd (cc)
parenthesis_bare name.AckSegment e = absurd (cc)
parenthesis_bare name.InvokeId e = absurd (cc)
parenthesis_bare name.SegmentedAccepted e = absurd (cc)
parenthesis_bare name.MaxSegments e = absurd (cc)
parenthesis_bare name.MaxResponse e = absurd (cc)
parenthesis_bare name.Sequence e = absurd (cc)
parenthesis_bare name.Window e = absurd (cc)
parenthesis_bare name.More e = absurd (cc)
parenthesis_bare name.Negative e = absurd (cc)
parenthesis_bare name.Server e = absurd (cc)
parenthesis_bare name.Reason e = absurd (cc)
parenthesis_bare name.Choice e = absurd (cc)
parenthesis_bare name.Octets e = absurd (cc)
parenthesis_bare name.NetworkMessage e = absurd (cc)
parenthesis_bare name.Network e = absurd (cc)
parenthesis_bare name.Networks e = absurd (cc)
parenthesis_bare name.ListedNetwork e = absurd (cc)
parenthesis_bare name.Performance e = absurd (cc)
parenthesis_bare name.Ports e = absurd (cc)
parenthesis_bare name.PortId e = absurd (cc)
parenthesis_bare name.PortInfo e = absurd (cc)
parenthesis_bare name.Time e = absurd (cc)
parenthesis_bare name.Flag e = absurd (cc)
parenthesis_bare name.Vendor e = absurd (cc)
parenthesis_bare name.Data e = absurd (cc)
parenthesis_bare name.ReadProperty e = absurd (cc)
parenthesis_bare name.ReadPropertyMultiple e = absurd (cc)
parenthesis_bare name.WriteProperty e = absurd (cc)
parenthesis_bare name.WritePropertyMultiple e = absurd (cc)
parenthesis_bare name.WhoIs e = absurd (cc)
parenthesis_bare name.IAm e = absurd (cc)
parenthesis_bare name.SubscribeCov e = absurd (cc)
parenthesis_bare name.ConfirmedCovNotification e = absurd (cc)
parenthesis_bare name.UnconfirmedCovNotification e = absurd (cc)
parenthesis_bare name.Opaque e = absurd (cc)
parenthesis_bare name.Object e = absurd (cc)
parenthesis_bare name.Property e = absurd (cc)
parenthesis_bare name.Index e = absurd (cc)
parenthesis_bare name.Priority e = absurd (cc)
parenthesis_bare name.Process e = absurd (cc)
parenthesis_bare name.Device e = absurd (cc)
parenthesis_bare name.Confirmed e = absurd (cc)
parenthesis_bare name.Lifetime e = absurd (cc)
parenthesis_bare name.Remaining e = absurd (cc)
parenthesis_bare name.Low e = absurd (cc)
parenthesis_bare name.High e = absurd (cc)
parenthesis_bare name.MaxApdu e = absurd (cc)
parenthesis_bare name.Segmentation e = absurd (cc)
parenthesis_bare name.ErrorClass e = absurd (cc)
parenthesis_bare name.ErrorCode e = absurd (cc)
parenthesis_bare name.Specifications e = absurd (cc)
parenthesis_bare name.Properties e = absurd (cc)
parenthesis_bare name.Results e = absurd (cc)
parenthesis_bare name.Values e = absurd (cc)
parenthesis_bare name.ListEnd e = refl
parenthesis_bare name.Item e = absurd (cc)
parenthesis_bare name.ItemEnd e = refl
parenthesis_bare name.Value e = absurd (cc)
parenthesis_bare name.ValueEnd e = absurd (cc)
parenthesis_bare name.PropertyError e = absurd (cc)
parenthesis_bare name.PropertyErrorEnd e = refl
parenthesis_bare name.Group e = absurd (cc)
parenthesis_bare name.GroupEnd e = absurd (cc)
parenthesis_bare name.Null e = absurd (cc)
parenthesis_bare name.Boolean e = absurd (cc)
parenthesis_bare name.Unsigned e = absurd (cc)
parenthesis_bare name.Signed e = absurd (cc)
parenthesis_bare name.Real e = absurd (cc)
parenthesis_bare name.Double e = absurd (cc)
parenthesis_bare name.OctetString e = absurd (cc)
parenthesis_bare name.CharacterString e = absurd (cc)
parenthesis_bare name.BitString e = absurd (cc)
parenthesis_bare name.Enumerated e = absurd (cc)
parenthesis_bare name.Date e = absurd (cc)
parenthesis_bare name.TimeOfDay e = absurd (cc)
parenthesis_bare name.ObjectIdentifier e = absurd (cc)
parenthesis_bare name.ContextPrimitive e = absurd (cc)

pub brace_bare : (n : Name) → form_of n ≡ as_brace → has_contents (number_of n) ≡ false
brace_bare name.NetworkPriority e = absurd (cc)
brace_bare name.ReplyExpected e = absurd (cc)
brace_bare name.Destination e = absurd (cc)
brace_bare name.HopCount e = absurd (cc)
brace_bare name.Source e = absurd (cc)
brace_bare name.ConfirmedRequest e = absurd (cc)
brace_bare name.UnconfirmedRequest e = absurd (cc)
brace_bare name.SimpleAck e = absurd (cc)
brace_bare name.ComplexAck e = absurd (cc)
brace_bare name.SegmentAck e = absurd (cc)
brace_bare name.Error e = absurd (cc)
brace_bare name.Reject e = absurd (cc)
brace_bare name.Abort e = absurd (cc)
brace_bare name.RequestSegment e = absurd (cc)
brace_bare name.AckSegment e = absurd (cc)
brace_bare name.InvokeId e = absurd (cc)
brace_bare name.SegmentedAccepted e = absurd (cc)
brace_bare name.MaxSegments e = absurd (cc)
brace_bare name.MaxResponse e = absurd (cc)
brace_bare name.Sequence e = absurd (cc)
brace_bare name.Window e = absurd (cc)
brace_bare name.More e = absurd (cc)
brace_bare name.Negative e = absurd (cc)
brace_bare name.Server e = absurd (cc)
brace_bare name.Reason e = absurd (cc)
brace_bare name.Choice e = absurd (cc)
brace_bare name.Octets e = absurd (cc)
brace_bare name.NetworkMessage e = absurd (cc)
brace_bare name.Network e = absurd (cc)
brace_bare name.Networks e = absurd (cc)
brace_bare name.ListedNetwork e = absurd (cc)
brace_bare name.Performance e = absurd (cc)
brace_bare name.Ports e = absurd (cc)
brace_bare name.PortId e = absurd (cc)
brace_bare name.PortInfo e = absurd (cc)
brace_bare name.Time e = absurd (cc)
brace_bare name.Flag e = absurd (cc)
brace_bare name.Vendor e = absurd (cc)
brace_bare name.Data e = absurd (cc)
brace_bare name.ReadProperty e = absurd (cc)
brace_bare name.ReadPropertyMultiple e = absurd (cc)
brace_bare name.WriteProperty e = absurd (cc)
brace_bare name.WritePropertyMultiple e = absurd (cc)
brace_bare name.WhoIs e = absurd (cc)
brace_bare name.IAm e = absurd (cc)
brace_bare name.SubscribeCov e = absurd (cc)
brace_bare name.ConfirmedCovNotification e = absurd (cc)
brace_bare name.UnconfirmedCovNotification e = absurd (cc)
brace_bare name.Opaque e = absurd (cc)
brace_bare name.Object e = absurd (cc)
brace_bare name.Property e = absurd (cc)
brace_bare name.Index e = absurd (cc)
brace_bare name.Priority e = absurd (cc)
brace_bare name.Process e = absurd (cc)
brace_bare name.Device e = absurd (cc)
brace_bare name.Confirmed e = absurd (cc)
brace_bare name.Lifetime e = absurd (cc)
brace_bare name.Remaining e = absurd (cc)
brace_bare name.Low e = absurd (cc)
brace_bare name.High e = absurd (cc)
brace_bare name.MaxApdu e = absurd (cc)
brace_bare name.Segmentation e = absurd (cc)
brace_bare name.ErrorClass e = absurd (cc)
brace_bare name.ErrorCode e = absurd (cc)
brace_bare name.Specifications e = absurd (cc)
brace_bare name.Properties e = absurd (cc)
brace_bare name.Results e = absurd (cc)
brace_bare name.Values e = absurd (cc)
brace_bare name.ListEnd e = absurd (cc)
brace_bare name.Item e = absurd (cc)
brace_bare name.ItemEnd e = absurd (cc)
brace_bare name.Value e = absurd (cc)
brace_bare name.ValueEnd e = refl
brace_bare name.PropertyError e = absurd (cc)
brace_bare name.PropertyErrorEnd e = absurd (cc)
brace_bare name.Group e = absurd (cc)
brace_bare name.GroupEnd e = refl
brace_bare name.Null e = absurd (cc)
brace_bare name.Boolean e = absurd (cc)
brace_bare name.Unsigned e = absurd (cc)
brace_bare name.Signed e = absurd (cc)
brace_bare name.Real e = absurd (cc)
brace_bare name.Double e = absurd (cc)
brace_bare name.OctetString e = absurd (cc)
brace_bare name.CharacterString e = absurd (cc)
brace_bare name.BitString e = absurd (cc)
brace_bare name.Enumerated e = absurd (cc)
brace_bare name.Date e = absurd (cc)
brace_bare name.TimeOfDay e = absurd (cc)
brace_bare name.ObjectIdentifier e = absurd (cc)
brace_bare name.ContextPrimitive e = absurd (cc)

pub ending_bare : (parenthesis : Bool) (n : Name) → form_of n ≡ ending parenthesis → has_contents (number_of n) ≡ false
ending_bare true n e = parenthesis_bare n e
ending_bare false n e = brace_bare n e

-- an end, as it is written
pub end_shown : (first parenthesis : Bool) (form : Form) (v : FieldValue) → form ≡ ending parenthesis → lead first form ++ shown form v ≡ (if parenthesis then 41 else 125) ∷ []
end_shown first true form v k = ap (λ (f : Form). lead first f ++ shown f v) k
end_shown first false form v k = ap (λ (f : Form). lead first f ++ shown f v) k

pub end_token : (parenthesis : Bool) (form : Form) (v : FieldValue) (ends after : List Closing) → form ≡ ending parenthesis → ends ≡ after ++ open_end v.name v.number ∷ [] → TokenIn form ends v after
end_token true form v ends after k e = subst (λ (f : Form). TokenIn f ends v after) (sym k) e
end_token false form v ends after k e = subst (λ (f : Form). TokenIn f ends v after) (sym k) e

pub end_begins : (parenthesis : Bool) (form : Form) → form ≡ ending parenthesis → begins form ≡ false
end_begins true form k = ap begins k
end_begins false form k = ap begins k
