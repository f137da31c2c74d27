-- Fields, as a line is scanned for them.
use Rattle.std.specs.Prelude.{◌≡◌, ℕ, ◌+◌, ◌*◌, ◌<◌, ◌^◌, Bool, true, ◌||◌, ◌&&◌, ◌==◌, not, nat_le, if◌then◌else◌, IsTrue, List, [], ◌∷◌, ◌++◌, length, take, codes, Option, Some, IfSome}
use Rattle.bac_tag.specs.Octets.{IsOctets}
use Rattle.bac_value.specs.TextContents.{TextValue}
use Rattle.bac_value.specs.BitsContents.{packed_bits, bits_in}
use Rattle.bac_record.specs.Digits.{hexadecimal}
use Rattle.bac_text.specs.Words.{number}
use Rattle.bac_text.specs.PrimitiveText.{is_plain}
use Rattle.bac_field_parts.specs.declared.names.Name.{Name}
use Rattle.bac_field_parts.specs.declared.names.Name.TheVariants as name
use Rattle.bac_field_parts.specs.Fields.{FieldValue}
use Rattle.bac_fields.specs.Line.{Form, as_word, as_number, as_object, as_octets, as_address, as_type, as_network, as_list, as_item, as_value, as_group, as_parenthesis, as_brace, as_truth, as_element, as_signed, as_contents, as_bits, as_identifier, as_text, as_context, form_of}
use Rattle.bac_lines.specs.declared.closing.Closing.{Closing}

-- ---- octets of a line

-- The next octet does not pass the test, or nothing comes next.
abbrev pub clear : (ℕ → Bool) → List ℕ → Bool
clear test [] = true
clear test (x ∷ more) = not (test x)

-- Each of the octets passes the test.
abbrev pub each : (ℕ → Bool) → List ℕ → Bool
each test [] = true
each test (x ∷ xs) = test x && each test xs

-- The octet is a decimal digit.
abbrev pub is_decimal : ℕ → Bool
is_decimal x = nat_le 48 x && nat_le x 57

-- The octet is a hexadecimal digit, in upper case if it is a letter.
abbrev pub is_hex : ℕ → Bool
is_hex x = (nat_le 48 x && nat_le x 57) || (nat_le 65 x && nat_le x 70)

-- The octet is a letter or a hyphen, which is what a word is made of.
abbrev pub is_letter : ℕ → Bool
is_letter x = (nat_le 97 x && nat_le x 122) || ((nat_le 65 x && nat_le x 90) || (x == 45))

-- Nothing comes next, or a blank, ) or }. This is what may come after a field that is not the beginning of something.
abbrev pub ends_field : List ℕ → Bool
ends_field [] = true
ends_field (x ∷ more) = (x == 32) || ((x == 41) || (x == 125))

-- If the line has the text of a value, and what comes after the text is clear, the value is found, with the number of octets of
-- its text. The test fringe says what is not clear.
abbrev pub Finds : {V : Type 0} → (V → Type 0) → (V → List ℕ) → (ℕ → Bool) → List ℕ → Option (V × ℕ) → Type 0
Finds {V} fits text fringe line result = (v : V) (more : List ℕ) → fits v → IsTrue (clear fringe more) → line ≡ text v ++ more → result ≡ Some (v, length (text v))

-- What is found, if anything is, is a value, and so many octets at the front of the line are its text.
abbrev pub IsFound : {V : Type 0} → (V → Type 0) → (V → List ℕ) → List ℕ → Option (V × ℕ) → Type 0
IsFound {V} fits text line result = IfSome result (λ found. fits found.0 × (take found.1 line ≡ text found.0))

-- The number that octets are, the most significant first, after octets that are the number n.
abbrev pub number_after : ℕ → List ℕ → ℕ
number_after n [] = n
number_after n (octet ∷ octets) = number_after (n * 256 + octet) octets

-- The text of a character string after its letter s.
abbrev pub text_tail : TextValue → List ℕ
text_tail text =
    if is_plain text then codes ":\"" ++ (text.octets ++ codes "\"") else number text.set ++ (codes ":" ++ hexadecimal text.octets)

-- ---- fields of a frame, one after another

-- The number of a field that is a word: the choice of a service, or 0.
abbrev pub word_number : Name → ℕ
word_number name.ReadProperty = 12
word_number name.ReadPropertyMultiple = 14
word_number name.WriteProperty = 15
word_number name.WritePropertyMultiple = 16
word_number name.WhoIs = 8
word_number name.SubscribeCov = 5
word_number name.ConfirmedCovNotification = 1
word_number name.UnconfirmedCovNotification = 2
word_number _ = 0

-- The name of the field with which a list ends.
abbrev pub end_of : Name → Name
end_of name.PropertyError = name.PropertyErrorEnd
end_of _ = name.ListEnd

-- The name fits what is open. Two names have the word id: inside of something it is that of a port, and else the invoke id.
abbrev pub IsNamed : List Closing → Name → Type 0
IsNamed ends name.InvokeId = ends ≡ []
IsNamed ends name.PortId = ends ≡ [] → ⊥
IsNamed ends _ = Unit {0}

-- The number of a Real or a Double is what its 4 or 8 octets are, and other contents have the number 0.
abbrev pub HasBits : Name → ℕ → List ℕ → Type 0
HasBits name.Real number octets = (number ≡ number_after 0 octets) × (length octets ≡ 4)
HasBits name.Double number octets = (number ≡ number_after 0 octets) × (length octets ≡ 8)
HasBits _ number octets = number ≡ 0

-- The end of something that is open, with its name and its number.
abbrev pub open_end : Name → ℕ → Closing
open_end name number = record { name = name; number = number }

-- The field is of this form as frames have it, and opens or ends what it shall. The first ends are those of what is open before
-- it, the innermost last, and the second ones those after it.
abbrev pub TokenIn : Form → List Closing → FieldValue → List Closing → Type 0
TokenIn as_word ends v after = (v.number ≡ word_number v.name) × (after ≡ ends)
TokenIn as_number ends v after = (v.number < 2 ^ 64) × (IsNamed ends v.name × (after ≡ ends))
TokenIn as_object ends v after = (v.number < 2 ^ 32) × (after ≡ ends)
TokenIn as_octets ends v after = (v.number ≡ 0) × (IsOctets v.contents × (after ≡ ends))
TokenIn as_address ends v after = (v.number < 65536) × (IsOctets v.contents × (after ≡ ends))
TokenIn as_type ends v after = (v.number < 256) × (after ≡ ends)
TokenIn as_network ends v after = (v.number < 65536) × (after ≡ ends)
TokenIn as_list ends v after = (v.number ≡ 0) × (after ≡ ends ++ open_end (end_of v.name) 0 ∷ [])
TokenIn as_item ends v after = (v.number ≡ 0) × (after ≡ ends ++ open_end name.ItemEnd 0 ∷ [])
TokenIn as_value ends v after = (v.number ≡ 0) × (after ≡ ends ++ open_end name.ValueEnd 0 ∷ [])
TokenIn as_group ends v after = (v.number < 256) × (after ≡ ends ++ open_end name.GroupEnd v.number ∷ [])
TokenIn as_parenthesis ends v after = ends ≡ after ++ open_end v.name v.number ∷ []
TokenIn as_brace ends v after = ends ≡ after ++ open_end v.name v.number ∷ []
TokenIn as_truth ends v after = (v.number < 2) × (after ≡ ends)
TokenIn as_element ends v after = (v.number < 2 ^ 64) × (after ≡ ends)
TokenIn as_signed ends v after = (v.number < 2 ^ 64) × (after ≡ ends)
TokenIn as_contents ends v after = HasBits v.name v.number v.contents × (IsOctets v.contents × (after ≡ ends))
TokenIn as_bits ends v after = (bits : List Bool) × ((v.contents ≡ packed_bits bits) × ((v.number ≡ length bits) × ((bits_in v.contents v.number ≡ bits) × (after ≡ ends))))
TokenIn as_identifier ends v after = (v.number < 2 ^ 32) × (after ≡ ends)
TokenIn as_text ends v after = (v.number < 256) × (IsOctets v.contents × (after ≡ ends))
TokenIn as_context ends v after = (v.number < 256) × (IsOctets v.contents × (after ≡ ends))

-- The fields, one after another, are as frames have them: each beginning has its end, with the name and the number that it has.
abbrev pub AreTokens : List Closing → List FieldValue → Type 0
AreTokens ends [] = Unit {0}
AreTokens ends (v ∷ vs) = (after : List Closing) × (TokenIn (form_of v.name) ends v after × AreTokens after vs)
