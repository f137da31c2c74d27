-- What the fields that begin with a word go on with.
use Rattle.std.specs.Prelude.{◌≡◌, ◌⊎◌, ℕ, ◌/◌, ◌%◌, ◌<◌, ◌^◌, List, [], ◌∷◌, ◌++◌, Bool, true, false, not, nat_eq, nat_le, ◌==◌, if◌then◌else◌, IsTrue, codes, refl}
use Rattle.std.proofs.Common.{sym, ◌∙◌, subst, inl, inr, arith, append_assoc, append-nil}
use Rattle.std.proofs.lemmas.Bool.{both_ways, and_parts, leb-true, eqb-false}
use Rattle.std.proofs.lemmas.Bool.Decides.{nat_tests}
use Rattle.bac_value.specs.TextContents.{TextValue}
use Rattle.bac_record.specs.Digits.{hexadecimal}
use Rattle.bac_text.specs.Words.{number, field}
use Rattle.bac_text.specs.PrimitiveText.{is_plain, string_text}
use Rattle.bac_text.specs.FrameText.{address_text}
use Rattle.bac_field_parts.specs.declared.names.Name.{Name}
use Rattle.bac_field_parts.specs.declared.names.Name.TheVariants as name
use Rattle.bac_field_parts.specs.Names.{word_of}
use Rattle.bac_field_parts.specs.Fields.{FieldValue}
use Rattle.bac_fields.specs.Line.{Form, as_word, as_number, as_object, as_octets, as_address, as_type, as_network, as_list, as_item, as_value, as_group, as_parenthesis, as_brace, as_truth, as_element, as_signed, as_contents, as_bits, as_identifier, as_text, as_context, form_of, shown, begins}
use Rattle.bac_lines.specs.declared.closing.Closing.{Closing}
use Rattle.bac_lines.specs.Scanning.{TokenIn, is_decimal, is_hex, is_letter, ends_field, clear, text_tail}
use Rattle.bac_lines.specs.Found.{Sort, Link, by_word, by_equals, by_colon, sort_of, link_of, word_before, value_shown, after_word}
use Rattle.bac_lines.proofs.Digits.{first_is_digit}
use Rattle.bac_lines.proofs.NameLemmas.{IsWord, word_of_letters, same_word, same_itself}
use Rattle.bac_lines.proofs.ScanLemmas.{not_digits, clear_of}

-- ---- lists that differ

differ : (word other : List ℕ) → same_word word other ≡ false → word ≡ other → ⊥
differ word other d e = both_ways (same_word word other) d (subst (λ (l : List ℕ). IsTrue (same_word word l)) e (same_itself word))

pub apart_numbers : (x y : ℕ) → (x == y) ≡ false → x ≡ y → ⊥
apart_numbers x y d e = eqb-false x y d e

pub head_is : {x y : ℕ} {xs ys : List ℕ} → x ∷ xs ≡ y ∷ ys → x ≡ y
head_is {x} {y} {xs} {ys} e = cc

pub heads : (x y : ℕ) {xs ys : List ℕ} → (x == y) ≡ false → x ∷ xs ≡ y ∷ ys → ⊥
heads x y d e = apart_numbers x y d (head_is e)

pub tail_is : {x y : ℕ} {xs ys : List ℕ} → x ∷ xs ≡ y ∷ ys → xs ≡ ys
tail_is {x} {y} {xs} {ys} e = cc

pub not_nil : {x : ℕ} {xs : List ℕ} → [] ≡ x ∷ xs → ⊥
not_nil {x} {xs} e = absurd (cc)

abbrev is_word_sort : Sort → Bool
is_word_sort by_word = true
is_word_sort _ = false

other_sort : (sort : Sort) → is_word_sort sort ≡ false → sort ≡ by_word → ⊥
other_sort sort d e = both_ways (is_word_sort sort) d (subst (λ (t : Sort). IsTrue (is_word_sort t)) (sym e) refl)

abbrev is_equals_link : Link → Bool
is_equals_link by_equals = true
is_equals_link _ = false

other_link : (link : Link) → is_equals_link link ≡ false → link ≡ by_equals → ⊥
other_link link d e = both_ways (is_equals_link link) d (subst (λ (t : Link). IsTrue (is_equals_link t)) (sym e) refl)

-- ---- words of one name

pub the_net : (n : Name) → form_of n ≡ as_type → word_of n ≡ 110 ∷ 101 ∷ 116 ∷ []
the_net name.NetworkPriority e = absurd (cc)
the_net name.ReplyExpected e = absurd (cc)
the_net name.Destination e = absurd (cc)
the_net name.HopCount e = absurd (cc)
the_net name.Source e = absurd (cc)
the_net name.ConfirmedRequest e = absurd (cc)
the_net name.UnconfirmedRequest e = absurd (cc)
the_net name.SimpleAck e = absurd (cc)
the_net name.ComplexAck e = absurd (cc)
the_net name.SegmentAck e = absurd (cc)
the_net name.Error e = absurd (cc)
the_net name.Reject e = absurd (cc)
the_net name.Abort e = absurd (cc)
the_net name.RequestSegment e = absurd (cc)
the_net name.AckSegment e = absurd (cc)
the_net name.InvokeId e = absurd (cc)
the_net name.SegmentedAccepted e = absurd (cc)
the_net name.MaxSegments e = absurd (cc)
the_net name.MaxResponse e = absurd (cc)
the_net name.Sequence e = absurd (cc)
the_net name.Window e = absurd (cc)
the_net name.More e = absurd (cc)
the_net name.Negative e = absurd (cc)
the_net name.Server e = absurd (cc)
the_net name.Reason e = absurd (cc)
the_net name.Choice e = absurd (cc)
the_net name.Octets e = absurd (cc)
the_net name.NetworkMessage e = refl
the_net name.Network e = absurd (cc)
the_net name.Networks e = absurd (cc)
the_net name.ListedNetwork e = absurd (cc)
the_net name.Performance e = absurd (cc)
the_net name.Ports e = absurd (cc)
the_net name.PortId e = absurd (cc)
the_net name.PortInfo e = absurd (cc)
the_net name.Time e = absurd (cc)
the_net name.Flag e = absurd (cc)
the_net name.Vendor e = absurd (cc)
the_net name.Data e = absurd (cc)
the_net name.ReadProperty e = absurd (cc)
the_net name.ReadPropertyMultiple e = absurd (cc)
the_net name.WriteProperty e = absurd (cc)
the_net name.WritePropertyMultiple e = absurd (cc)
the_net name.WhoIs e = absurd (cc)
the_net name.IAm e = absurd (cc)
the_net name.SubscribeCov e = absurd (cc)
the_net name.ConfirmedCovNotification e = absurd (cc)
the_net name.UnconfirmedCovNotification e = absurd (cc)
the_net name.Opaque e = absurd (cc)
the_net name.Object e = absurd (cc)
the_net name.Property e = absurd (cc)
the_net name.Index e = absurd (cc)
the_net name.Priority e = absurd (cc)
the_net name.Process e = absurd (cc)
the_net name.Device e = absurd (cc)
the_net name.Confirmed e = absurd (cc)
the_net name.Lifetime e = absurd (cc)
the_net name.Remaining e = absurd (cc)
the_net name.Low e = absurd (cc)
the_net name.High e = absurd (cc)
the_net name.MaxApdu e = absurd (cc)
the_net name.Segmentation e = absurd (cc)
the_net name.ErrorClass e = absurd (cc)
the_net name.ErrorCode e = absurd (cc)
the_net name.Specifications e = absurd (cc)
the_net name.Properties e = absurd (cc)
the_net name.Results e = absurd (cc)
the_net name.Values e = absurd (cc)
the_net name.ListEnd e = absurd (cc)
the_net name.Item e = absurd (cc)
the_net name.ItemEnd e = absurd (cc)
the_net name.Value e = absurd (cc)
the_net name.ValueEnd e = absurd (cc)
the_net name.PropertyError e = absurd (cc)
the_net name.PropertyErrorEnd e = absurd (cc)
the_net name.Group e = absurd (cc)
the_net name.GroupEnd e = absurd (cc)
the_net name.Null e = absurd (cc)
the_net name.Boolean e = absurd (cc)
the_net name.Unsigned e = absurd (cc)
the_net name.Signed e = absurd (cc)
the_net name.Real e = absurd (cc)
the_net name.Double e = absurd (cc)
the_net name.OctetString e = absurd (cc)
the_net name.CharacterString e = absurd (cc)
the_net name.BitString e = absurd (cc)
the_net name.Enumerated e = absurd (cc)
the_net name.Date e = absurd (cc)
the_net name.TimeOfDay e = absurd (cc)
the_net name.ObjectIdentifier e = absurd (cc)
the_net name.ContextPrimitive e = absurd (cc)

-- ---- what comes first

-- an octet that ends no field
pub not_end : (x : ℕ) → ends_field (x ∷ []) ≡ false → (more rest : List ℕ) → IsTrue (ends_field more) → x ∷ rest ≡ more → ⊥
not_end x f [] rest e is = absurd (cc)
not_end x f (y ∷ more) rest e is =
    let same : x ≡ y = cc in
    both_ways (ends_field (x ∷ [])) f (subst (λ (z : ℕ). IsTrue (ends_field (z ∷ []))) (sym same) e)

not_number : (x : ℕ) → is_decimal x ≡ false → (n : ℕ) (more rest : List ℕ) → n < 2 ^ 64 → x ∷ rest ≡ number n ++ more → ⊥
not_number x d n more rest small is = both_ways (is_decimal x) d (first_is_digit n x more rest small is)

pub not_value : (x : ℕ) → is_decimal x ≡ false → is_hex x ≡ false → ends_field (x ∷ []) ≡ false → (form : Form) (ends : List Closing) (v : FieldValue) (after : List Closing) (more rest : List ℕ) → link_of form ≡ by_equals → TokenIn form ends v after → IsTrue (ends_field more) → x ∷ rest ≡ value_shown form v ++ more → ⊥
not_value x d h f as_word ends v after more rest k t e is = absurd (other_link (link_of as_word) refl k)
not_value x d h f as_number ends v after more rest k t e is = not_number x d v.number more rest t.0 is
not_value x d h f as_object ends v after more rest k t e is = let small : v.number / 2 ^ 22 < 2 ^ 64 = omega (arith, t.0) in not_number x d (v.number / 2 ^ 22) (field ":" (number (v.number % 2 ^ 22)) ++ more) rest small (is ∙ append_assoc (number (v.number / 2 ^ 22)) (field ":" (number (v.number % 2 ^ 22))) more)
not_value x d h f as_octets ends v after more rest k t e is = not_digits x h f v.contents more rest t.1.0 e is
not_value x d h f as_address ends v after more rest k t e is = let small : v.number < 2 ^ 64 = omega (arith, t.0) in not_number x d v.number ((codes "/" ++ address_text v.contents) ++ more) rest small (is ∙ append_assoc (number v.number) (codes "/" ++ address_text v.contents) more)
not_value x d h f as_type ends v after more rest k t e is = absurd (other_link (link_of as_type) refl k)
not_value x d h f as_network ends v after more rest k t e is = absurd (other_link (link_of as_network) refl k)
not_value x d h f as_list ends v after more rest k t e is = absurd (other_link (link_of as_list) refl k)
not_value x d h f as_item ends v after more rest k t e is = absurd (other_link (link_of as_item) refl k)
not_value x d h f as_value ends v after more rest k t e is = absurd (other_link (link_of as_value) refl k)
not_value x d h f as_group ends v after more rest k t e is = absurd (other_link (link_of as_group) refl k)
not_value x d h f as_parenthesis ends v after more rest k t e is = absurd (other_link (link_of as_parenthesis) refl k)
not_value x d h f as_brace ends v after more rest k t e is = absurd (other_link (link_of as_brace) refl k)
not_value x d h f as_truth ends v after more rest k t e is = absurd (other_link (link_of as_truth) refl k)
not_value x d h f as_element ends v after more rest k t e is = absurd (other_link (link_of as_element) refl k)
not_value x d h f as_signed ends v after more rest k t e is = absurd (other_link (link_of as_signed) refl k)
not_value x d h f as_contents ends v after more rest k t e is = absurd (other_link (link_of as_contents) refl k)
not_value x d h f as_bits ends v after more rest k t e is = absurd (other_link (link_of as_bits) refl k)
not_value x d h f as_identifier ends v after more rest k t e is = absurd (other_link (link_of as_identifier) refl k)
not_value x d h f as_text ends v after more rest k t e is = absurd (other_link (link_of as_text) refl k)
not_value x d h f as_context ends v after more rest k t e is = absurd (other_link (link_of as_context) refl k)

-- a text goes on with a colon or a digit
text_first : (x : ℕ) (text : TextValue) (more rest : List ℕ) → text.set < 256 → x ∷ rest ≡ text_tail text ++ more → (x ≡ 58) ⊎ IsTrue (is_decimal x)
text_first x text more rest small is = by (is_plain text) is
  where
    by : (plain : Bool) → x ∷ rest ≡ (if plain then codes ":\"" ++ (text.octets ++ codes "\"") else number text.set ++ (codes ":" ++ hexadecimal text.octets)) ++ more → (x ≡ 58) ⊎ IsTrue (is_decimal x)
    by true e = inl (head_is e)
    by false e = let room : text.set < 2 ^ 64 = omega (arith, small) in inr (first_is_digit text.set x ((codes ":" ++ hexadecimal text.octets) ++ more) rest room (e ∙ append_assoc (number text.set) (codes ":" ++ hexadecimal text.octets) more))

text_some : (text : TextValue) (more : List ℕ) → [] ≡ text_tail text ++ more → ⊥
text_some text more is = by (is_plain text) is
  where
    none : (ds : List ℕ) (y : ℕ) (l : List ℕ) → [] ≡ (ds ++ y ∷ l) ++ more → ⊥
    none [] y l e = not_nil e
    none (d ∷ ds) y l e = not_nil e

    by : (plain : Bool) → [] ≡ (if plain then codes ":\"" ++ (text.octets ++ codes "\"") else number text.set ++ (codes ":" ++ hexadecimal text.octets)) ++ more → ⊥
    by true e = absurd (not_nil e)
    by false e = none (number text.set) 58 (hexadecimal text.octets) e

-- ---- forms by what comes after the word

pub after_equals : (form : Form) (ends : List Closing) (v : FieldValue) (after : List Closing) (more rest : List ℕ) → sort_of form ≡ by_word → TokenIn form ends v after → (begins form ≡ false → IsTrue (ends_field more)) → 61 ∷ rest ≡ after_word form v ++ more → (form ≡ as_list) ⊎ ((form ≡ as_value) ⊎ (link_of form ≡ by_equals))
after_equals as_word ends v after more rest s t b is = absurd (not_end 61 refl more rest (b refl) is)
after_equals as_number ends v after more rest s t b is = inr (inr refl)
after_equals as_object ends v after more rest s t b is = inr (inr refl)
after_equals as_octets ends v after more rest s t b is = inr (inr refl)
after_equals as_address ends v after more rest s t b is = inr (inr refl)
after_equals as_type ends v after more rest s t b is = absurd (heads 61 32 refl is)
after_equals as_network ends v after more rest s t b is = absurd (other_sort (sort_of as_network) refl s)
after_equals as_list ends v after more rest s t b is = inl refl
after_equals as_item ends v after more rest s t b is = absurd (other_sort (sort_of as_item) refl s)
after_equals as_value ends v after more rest s t b is = inr (inl refl)
after_equals as_group ends v after more rest s t b is = absurd (other_sort (sort_of as_group) refl s)
after_equals as_parenthesis ends v after more rest s t b is = absurd (other_sort (sort_of as_parenthesis) refl s)
after_equals as_brace ends v after more rest s t b is = absurd (other_sort (sort_of as_brace) refl s)
after_equals as_truth ends v after more rest s t b is = absurd (not_end 61 refl more rest (b refl) is)
after_equals as_element ends v after more rest s t b is = absurd (heads 61 58 refl is)
after_equals as_signed ends v after more rest s t b is = absurd (heads 61 58 refl is)
after_equals as_contents ends v after more rest s t b is = absurd (heads 61 58 refl is)
after_equals as_bits ends v after more rest s t b is = absurd (heads 61 58 refl is)
after_equals as_identifier ends v after more rest s t b is = absurd (heads 61 58 refl is)
after_equals as_text ends v after more rest s t b is = elim (text_first 61 (record { set = v.number; octets = v.contents }) more rest t.0 is) [ inl e ↦ absurd (apart_numbers 61 58 refl e) | inr d ↦ absurd (both_ways (is_decimal 61) refl d) ]
after_equals as_context ends v after more rest s t b is = absurd (other_sort (sort_of as_context) refl s)

pub after_colon : (form : Form) (ends : List Closing) (v : FieldValue) (after : List Closing) (more rest : List ℕ) → sort_of form ≡ by_word → TokenIn form ends v after → (begins form ≡ false → IsTrue (ends_field more)) → (word_before form v ≡ 115 ∷ [] → ⊥) → 58 ∷ rest ≡ after_word form v ++ more → link_of form ≡ by_colon
after_colon as_word ends v after more rest s t b other is = absurd (not_end 58 refl more rest (b refl) is)
after_colon as_number ends v after more rest s t b other is = absurd (heads 58 61 refl is)
after_colon as_object ends v after more rest s t b other is = absurd (heads 58 61 refl is)
after_colon as_octets ends v after more rest s t b other is = absurd (heads 58 61 refl is)
after_colon as_address ends v after more rest s t b other is = absurd (heads 58 61 refl is)
after_colon as_type ends v after more rest s t b other is = absurd (heads 58 32 refl is)
after_colon as_network ends v after more rest s t b other is = absurd (other_sort (sort_of as_network) refl s)
after_colon as_list ends v after more rest s t b other is = absurd (heads 58 61 refl is)
after_colon as_item ends v after more rest s t b other is = absurd (other_sort (sort_of as_item) refl s)
after_colon as_value ends v after more rest s t b other is = absurd (heads 58 61 refl is)
after_colon as_group ends v after more rest s t b other is = absurd (other_sort (sort_of as_group) refl s)
after_colon as_parenthesis ends v after more rest s t b other is = absurd (other_sort (sort_of as_parenthesis) refl s)
after_colon as_brace ends v after more rest s t b other is = absurd (other_sort (sort_of as_brace) refl s)
after_colon as_truth ends v after more rest s t b other is = absurd (not_end 58 refl more rest (b refl) is)
after_colon as_element ends v after more rest s t b other is = refl
after_colon as_signed ends v after more rest s t b other is = refl
after_colon as_contents ends v after more rest s t b other is = refl
after_colon as_bits ends v after more rest s t b other is = refl
after_colon as_identifier ends v after more rest s t b other is = refl
after_colon as_text ends v after more rest s t b other is = absurd (other refl)
after_colon as_context ends v after more rest s t b other is = absurd (other_sort (sort_of as_context) refl s)

-- ---- the word, and what comes after it

text_shape : (text : TextValue) → string_text text ≡ codes "s" ++ text_tail text
text_shape text = by (is_plain text)
  where
    by : (plain : Bool) → (if plain then field "s:\"" text.octets ++ codes "\"" else field "s" (number text.set) ++ field ":" (hexadecimal text.octets)) ≡ codes "s" ++ (if plain then codes ":\"" ++ (text.octets ++ codes "\"") else number text.set ++ (codes ":" ++ hexadecimal text.octets))
    by true = refl
    by false = refl

pub word_shape : (form : Form) (v : FieldValue) → sort_of form ≡ by_word → shown form v ≡ word_before form v ++ after_word form v
word_shape as_word v s = sym (append-nil (word_before as_word v))
word_shape as_number v s = refl
word_shape as_object v s = refl
word_shape as_octets v s = refl
word_shape as_address v s = refl
word_shape as_type v s = refl
word_shape as_network v s = absurd (other_sort (sort_of as_network) refl s)
word_shape as_list v s = refl
word_shape as_item v s = absurd (other_sort (sort_of as_item) refl s)
word_shape as_value v s = refl
word_shape as_group v s = absurd (other_sort (sort_of as_group) refl s)
word_shape as_parenthesis v s = absurd (other_sort (sort_of as_parenthesis) refl s)
word_shape as_brace v s = absurd (other_sort (sort_of as_brace) refl s)
word_shape as_truth v s = sym (append-nil (word_before as_truth v))
word_shape as_element v s = refl
word_shape as_signed v s = refl
word_shape as_contents v s = refl
word_shape as_bits v s = refl
word_shape as_identifier v s = refl
word_shape as_text v s = text_shape (record { set = v.number; octets = v.contents })
word_shape as_context v s = absurd (other_sort (sort_of as_context) refl s)

-- a digit is no letter
pub no_letter : (x : ℕ) → IsTrue (is_decimal x) → IsTrue (not (is_letter x))
no_letter x d =
    let p = and_parts (nat_le 48 x) (nat_le x 57) d in
    let high = leb-true x 57 p.1 in
    let low = leb-true 48 x p.0 in
    grind (arith, nat_tests, high, low)

truth_word : (n : ℕ) → IsWord (if nat_eq n 0 then codes "false" else codes "true")
truth_word n = by (nat_eq n 0)
  where
    by : (zero_is : Bool) → IsWord (if zero_is then codes "false" else codes "true")
    by true = record { first = 102; others = 97 ∷ 108 ∷ 115 ∷ 101 ∷ []; is = refl; begins = refl; letters = refl }
    by false = record { first = 116; others = 114 ∷ 117 ∷ 101 ∷ []; is = refl; begins = refl; letters = refl }

pub word_is : (form : Form) (v : FieldValue) → sort_of form ≡ by_word → IsWord (word_before form v)
word_is as_word v s = word_of_letters v.name
word_is as_number v s = word_of_letters v.name
word_is as_object v s = word_of_letters v.name
word_is as_octets v s = word_of_letters v.name
word_is as_address v s = word_of_letters v.name
word_is as_type v s = word_of_letters v.name
word_is as_network v s = absurd (other_sort (sort_of as_network) refl s)
word_is as_list v s = word_of_letters v.name
word_is as_item v s = absurd (other_sort (sort_of as_item) refl s)
word_is as_value v s = word_of_letters v.name
word_is as_group v s = absurd (other_sort (sort_of as_group) refl s)
word_is as_parenthesis v s = absurd (other_sort (sort_of as_parenthesis) refl s)
word_is as_brace v s = absurd (other_sort (sort_of as_brace) refl s)
word_is as_truth v s = truth_word v.number
word_is as_element v s = word_of_letters v.name
word_is as_signed v s = word_of_letters v.name
word_is as_contents v s = word_of_letters v.name
word_is as_bits v s = word_of_letters v.name
word_is as_identifier v s = word_of_letters v.name
word_is as_text v s = record { first = 115; others = []; is = refl; begins = refl; letters = refl }
word_is as_context v s = absurd (other_sort (sort_of as_context) refl s)

text_clear : (text : TextValue) (more : List ℕ) → text.set < 256 → IsTrue (clear is_letter (text_tail text ++ more))
text_clear text more small = by (text_tail text ++ more) (λ x rest e. text_first x text more rest small e)
  where
    digit_clear : (x : ℕ) → (x ≡ 58) ⊎ IsTrue (is_decimal x) → IsTrue (not (is_letter x))
    digit_clear x (inl e) = subst (λ (z : ℕ). IsTrue (not (is_letter z))) (sym e) refl
    digit_clear x (inr d) = no_letter x d

    by : (l : List ℕ) → ((x : ℕ) (rest : List ℕ) → x ∷ rest ≡ l → (x ≡ 58) ⊎ IsTrue (is_decimal x)) → IsTrue (clear is_letter l)
    by [] first = refl
    by (x ∷ l) first = digit_clear x (first x l refl)

-- no letter comes after the word
pub after_clear : (form : Form) (ends : List Closing) (v : FieldValue) (after : List Closing) (more : List ℕ) → sort_of form ≡ by_word → TokenIn form ends v after → (begins form ≡ false → IsTrue (ends_field more)) → IsTrue (clear is_letter (after_word form v ++ more))
after_clear as_word ends v after more s t b = clear_of is_letter refl refl refl more (b refl)
after_clear as_number ends v after more s t b = refl
after_clear as_object ends v after more s t b = refl
after_clear as_octets ends v after more s t b = refl
after_clear as_address ends v after more s t b = refl
after_clear as_type ends v after more s t b = refl
after_clear as_network ends v after more s t b = absurd (other_sort (sort_of as_network) refl s)
after_clear as_list ends v after more s t b = refl
after_clear as_item ends v after more s t b = absurd (other_sort (sort_of as_item) refl s)
after_clear as_value ends v after more s t b = refl
after_clear as_group ends v after more s t b = absurd (other_sort (sort_of as_group) refl s)
after_clear as_parenthesis ends v after more s t b = absurd (other_sort (sort_of as_parenthesis) refl s)
after_clear as_brace ends v after more s t b = absurd (other_sort (sort_of as_brace) refl s)
after_clear as_truth ends v after more s t b = clear_of is_letter refl refl refl more (b refl)
after_clear as_element ends v after more s t b = refl
after_clear as_signed ends v after more s t b = refl
after_clear as_contents ends v after more s t b = refl
after_clear as_bits ends v after more s t b = refl
after_clear as_identifier ends v after more s t b = refl
after_clear as_text ends v after more s t b = text_clear (record { set = v.number; octets = v.contents }) more t.0
after_clear as_context ends v after more s t b = absurd (other_sort (sort_of as_context) refl s)
