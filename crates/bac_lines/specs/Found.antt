-- What is found in a line, field by field.
use Rattle.std.specs.Prelude.{◌≡◌, ℕ, ◌<◌, ◌≤◌, take, drop, IsTrue, List, [], ◌∷◌, ◌++◌, Bool, true, false, nat_eq, if◌then◌else◌, length, codes, Option, Some, Result, IfOk, ◌⊎◌}
use Rattle.std.specs.Fmt.{signed_decimal}
use Rattle.std.specs.Int.{w64, cast_signed}
use Rattle.std.specs.Prelude.{map}
use Rattle.bac_value.specs.BitsContents.{bits_in}
use Rattle.bac_record.specs.Digits.{hexadecimal}
use Rattle.bac_text.specs.Words.{number, object_text}
use Rattle.bac_text.specs.PrimitiveText.{bit_digit}
use Rattle.bac_text.specs.FrameText.{address_text}
use Rattle.bac_field_parts.specs.declared.field.Field.{Field}
use Rattle.bac_field_parts.specs.declared.names.Name.{Name}
use Rattle.bac_field_parts.specs.Names.{number_of, word_of}
use Rattle.bac_field_parts.specs.Fields.{FieldValue}
use Rattle.bac_field_parts.specs.Symbols.{Symbol, finished, symbols_in, field_said, has_contents, contents_in}
use Rattle.bac_fields.specs.Line.{Form, as_number, as_object, as_octets, as_address, as_type, as_network, as_list, as_item, as_value, as_group, as_parenthesis, as_brace, as_truth, as_element, as_signed, as_contents, as_bits, as_identifier, as_text, as_context, form_of, object_of, shown, lead, begins, printed}
use Rattle.bac_lines.specs.declared.closing.Closing.{Closing}
use Rattle.bac_lines.specs.declared.fault.LineFault.{LineFault}
use Rattle.bac_lines.specs.declared.said.Said.{Said}
use Rattle.bac_lines.specs.Scanning.{TokenIn, AreTokens, text_tail, each, clear}

-- What a field begins with: an end, a parenthesis, a bracket, a digit, or a word.
pub data Sort : Type 0 where
  by_end by_parenthesis by_bracket by_digit by_word : Sort

-- What a field of this form begins with.
abbrev pub sort_of : Form → Sort
sort_of as_parenthesis = by_end
sort_of as_brace = by_end
sort_of as_item = by_parenthesis
sort_of as_group = by_bracket
sort_of as_context = by_bracket
sort_of as_network = by_digit
sort_of _ = by_word

-- What comes after the word of a field: what begins something, an equals sign, a colon, a text, or nothing of these.
pub data Link : Type 0 where
  by_list by_value by_equals by_colon by_text by_itself : Link

-- What comes after the word of a field of this form.
abbrev pub link_of : Form → Link
link_of as_list = by_list
link_of as_value = by_value
link_of as_number = by_equals
link_of as_object = by_equals
link_of as_octets = by_equals
link_of as_address = by_equals
link_of as_element = by_colon
link_of as_signed = by_colon
link_of as_contents = by_colon
link_of as_bits = by_colon
link_of as_identifier = by_colon
link_of as_text = by_text
link_of _ = by_itself

-- The word with which the text of a field begins.
abbrev pub word_before : Form → FieldValue → List ℕ
word_before as_truth v = if nat_eq v.number 0 then codes "false" else codes "true"
word_before as_text v = codes "s"
word_before _ v = word_of v.name

-- The text of a field after the equals sign or the colon.
abbrev pub value_shown : Form → FieldValue → List ℕ
value_shown as_number v = number v.number
value_shown as_object v = object_text (object_of v.number)
value_shown as_octets v = hexadecimal v.contents
value_shown as_address v = number v.number ++ (codes "/" ++ address_text v.contents)
value_shown as_element v = number v.number
value_shown as_signed v = signed_decimal (cast_signed w64 v.number)
value_shown as_contents v = hexadecimal v.contents
value_shown as_bits v = map bit_digit (bits_in v.contents v.number)
value_shown as_identifier v = object_text (object_of v.number)
value_shown _ v = []

-- The text of a field after its word.
abbrev pub after_word : Form → FieldValue → List ℕ
after_word as_list v = codes "=("
after_word as_value v = codes "={"
after_word as_number v = codes "=" ++ value_shown as_number v
after_word as_object v = codes "=" ++ value_shown as_object v
after_word as_octets v = codes "=" ++ value_shown as_octets v
after_word as_address v = codes "=" ++ value_shown as_address v
after_word as_element v = codes ":" ++ value_shown as_element v
after_word as_signed v = codes ":" ++ value_shown as_signed v
after_word as_contents v = codes ":" ++ value_shown as_contents v
after_word as_bits v = codes ":" ++ value_shown as_bits v
after_word as_identifier v = codes ":" ++ value_shown as_identifier v
after_word as_text v = text_tail (record { set = v.number; octets = v.contents })
after_word as_type v = codes " type=" ++ hexadecimal (v.number ∷ [])
after_word _ v = []

-- ---- what is added

-- The field is added to those that are said, and its contents, if its name has any, are added after those that are there.
pub record Adds (v : FieldValue) (old new : Said) : Type 0 where
  pub field : Field
  pub contents : List ℕ
  pub fields_are : new.fields.items ≡ old.fields.items ++ field ∷ []
  pub contents_are : new.contents.items ≡ old.contents.items ++ contents
  pub is_named : field.name ≡ number_of v.name
  pub is_numbered : field.number ≡ v.number
  pub holds : (more : List ℕ) → contents_in (new.contents.items ++ more) field ≡ Some (if has_contents (number_of v.name) then v.contents else [])

-- The field is added, with so many octets of the line, and what is open is that after it; or memory was refused.
abbrev pub IsAdded : FieldValue → List Closing → ℕ → Said → Said → List Closing → Result (Option (ℕ × Bool)) LineFault → Type 0
IsAdded v after n old new ends result = IfOk result (λ found. (found ≡ Some (n, begins (form_of v.name))) × ((ends ≡ after) × Adds v old new))

-- The field, which opens and ends nothing, is added, with so many octets of the line; or memory was refused.
abbrev pub IsHeld : FieldValue → ℕ → Said → Said → Result (Option ℕ) LineFault → Type 0
IsHeld v n old new result = IfOk result (λ taken. (taken ≡ Some n) × Adds v old new)

-- So many octets of the line pass the test, and the next one does not.
pub record IsRun (test : ℕ → Bool) (line : List ℕ) (n : ℕ) : Type 0 where
  pub within : n ≤ length line
  pub run : IsTrue (each test (take n line))
  pub ends : IsTrue (clear test (drop n line))

-- The form of an end: a parenthesis for true, a brace for false.
abbrev pub ending : Bool → Form
ending true = as_parenthesis
ending false = as_brace

-- The text of a field after a tag in brackets.
abbrev pub tagged_text : Form → FieldValue → List ℕ
tagged_text as_group v = codes "{"
tagged_text _ v = hexadecimal v.contents

-- So many octets of the line are the text of a field as frames have it, with the blank before it, if it has one, and the field
-- is added.
pub record Scanned (first : Bool) (line : List ℕ) (found : ℕ × Bool) (ends after : List Closing) (old new : Said) : Type 0 where
  pub field : FieldValue
  pub token : TokenIn (form_of field.name) ends field after
  pub is_text : take found.0 line ≡ lead first (form_of field.name) ++ shown (form_of field.name) field
  pub begun : found.1 ≡ begins (form_of field.name)
  pub added : Adds field old new

-- So many octets of the line are the text of a field that is no end, without the blank before it, and the field is added.
pub record Shows (line : List ℕ) (found : ℕ × Bool) (ends after : List Closing) (old new : Said) : Type 0 where
  pub field : FieldValue
  pub no_end : sort_of (form_of field.name) ≡ by_end → ⊥
  pub token : TokenIn (form_of field.name) ends field after
  pub is_text : take found.0 line ≡ shown (form_of field.name) field
  pub begun : found.1 ≡ begins (form_of field.name)
  pub added : Adds field old new

-- So many octets of the line are the text of a value, which is part of a field that opens and ends nothing, and the field is
-- added.
pub record Valued (Is : FieldValue → Type 0) (text : FieldValue → List ℕ) (line : List ℕ) (n : ℕ) (old new : Said) : Type 0 where
  pub field : FieldValue
  pub has : Is field
  pub is_text : take n line ≡ text field
  pub added : Adds field old new

-- So many octets of the line come after a tag with this number: they begin a group, or are the octets under the tag. The field
-- is added.
pub record TaggedSo (number : ℕ) (line : List ℕ) (found : ℕ × Bool) (ends after : List Closing) (old new : Said) : Type 0 where
  pub field : FieldValue
  pub is_tag : (form_of field.name ≡ as_group) ⊎ (form_of field.name ≡ as_context)
  pub token : TokenIn (form_of field.name) ends field after
  pub is_number : field.number ≡ number
  pub is_text : take found.0 line ≡ tagged_text (form_of field.name) field
  pub begun : found.1 ≡ begins (form_of field.name)
  pub added : Adds field old new

-- A field with this word is scanned and added, of which so many octets come after the word. The first of them is this sign,
-- which is not in the line.
pub record WordedSo (sign : ℕ) (word line : List ℕ) (found : ℕ × Bool) (ends after : List Closing) (old new : Said) : Type 0 where
  pub field : FieldValue
  pub worded : sort_of (form_of field.name) ≡ by_word
  pub token : TokenIn (form_of field.name) ends field after
  pub is_word : word ≡ word_before (form_of field.name) field
  pub some : 0 < found.0
  pub is_text : take found.0 (sign ∷ line) ≡ after_word (form_of field.name) field
  pub begun : found.1 ≡ begins (form_of field.name)
  pub added : Adds field old new

-- A field with this word is scanned and added, of which so many octets come after the word. They are all in the line.
pub record WordedAs (word line : List ℕ) (found : ℕ × Bool) (ends after : List Closing) (old new : Said) : Type 0 where
  pub field : FieldValue
  pub worded : sort_of (form_of field.name) ≡ by_word
  pub token : TokenIn (form_of field.name) ends field after
  pub is_word : word ≡ word_before (form_of field.name) field
  pub is_text : take found.0 line ≡ after_word (form_of field.name) field
  pub begun : found.1 ≡ begins (form_of field.name)
  pub added : Adds field old new

-- The field has this word and this link before a value, and opens and ends nothing, whatever is open.
abbrev pub ValueOf : Link → List ℕ → List Closing → FieldValue → Type 0
ValueOf link word ends v = (link_of (form_of v.name) ≡ link) × (TokenIn (form_of v.name) ends v ends × (word ≡ word_of v.name))

-- The text of the value of a field, after the equals sign or the colon, by its form.
abbrev pub shown_value : FieldValue → List ℕ
shown_value v = value_shown (form_of v.name) v

-- The symbols of fields, one after another.
abbrev pub fields_said : List FieldValue → List Symbol
fields_said [] = []
fields_said (v ∷ vs) = field_said v ++ fields_said vs

-- The line is that of fields as frames have them, and these are said.
pub record AreScanned (line : List ℕ) (said : Said) : Type 0 where
  pub fields : List FieldValue
  pub tokens : AreTokens [] fields
  pub is_line : line ≡ printed fields
  pub are_said : symbols_in said.contents.items said.fields.items ≡ fields_said fields ++ finished ∷ []

-- ---- names

-- The name is one of these.
abbrev pub Among : List Name → Name → Type 0
Among [] name = ⊥
Among (one ∷ names) name = (name ≡ one) ⊎ Among names name
