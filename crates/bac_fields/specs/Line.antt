-- The line of a frame, printed from its fields.
use Rattle.std.specs.Prelude.{ℕ, ◌/◌, ◌%◌, ◌^◌, Bool, true, false, List, [], ◌∷◌, ◌++◌, map, nat_eq, codes, if◌then◌else◌}
use Rattle.std.specs.Fmt.{signed_decimal}
use Rattle.std.specs.Int.{w64, cast_signed}
use Rattle.bac_value.specs.BitsContents.{bits_in}
use Rattle.bac_value.specs.Identifier.{Identifier}
use Rattle.bac_record.specs.Digits.{hexadecimal}
use Rattle.bac_text.specs.Words.{number, object_text}
use Rattle.bac_text.specs.PrimitiveText.{bit_digit, string_text}
use Rattle.bac_text.specs.WalkText.{blank}
use Rattle.bac_text.specs.FrameText.{address_text}
use Rattle.bac_field_parts.specs.declared.names.Name.{Name}
use Rattle.bac_field_parts.specs.declared.names.Name.TheVariants as name
use Rattle.bac_field_parts.specs.Fields.{FieldValue}
use Rattle.bac_field_parts.specs.Names.{word_of}

-- What is in the line for a field. There are 21 forms, such as its word, word=number, word=TYPE:INSTANCE, or word:contents.
pub data Form : Type 0 where
  -- its word; its word, an equals sign, and a number, an object, its contents, or a network and an address
  as_word as_number as_object as_octets as_address : Form
  -- the type of a network message; a network of a list, which has no word
  as_type as_network : Form
  -- where a list, an item, a value or a group begins
  as_list as_item as_value as_group : Form
  -- where one of them ends, with a parenthesis or with a brace
  as_parenthesis as_brace : Form
  -- an element of an open value: a truth value; its word, a colon, and a number, a signed number, its contents, bits, or
  -- an object
  as_truth as_element as_signed as_contents as_bits as_identifier : Form
  -- a text; a context tag and its contents
  as_text as_context : Form

-- The form of the fields of a name, which is what is in the line for them.
abbrev pub form_of : Name → Form
form_of name.ConfirmedRequest = as_word
form_of name.UnconfirmedRequest = as_word
form_of name.SimpleAck = as_word
form_of name.ComplexAck = as_word
form_of name.SegmentAck = as_word
form_of name.Error = as_word
form_of name.Reject = as_word
form_of name.Abort = as_word
form_of name.RequestSegment = as_word
form_of name.AckSegment = as_word
form_of name.ReadProperty = as_word
form_of name.ReadPropertyMultiple = as_word
form_of name.WriteProperty = as_word
form_of name.WritePropertyMultiple = as_word
form_of name.WhoIs = as_word
form_of name.IAm = as_word
form_of name.SubscribeCov = as_word
form_of name.ConfirmedCovNotification = as_word
form_of name.UnconfirmedCovNotification = as_word
form_of name.Opaque = as_word
form_of name.Null = as_word
form_of name.Object = as_object
form_of name.Device = as_object
form_of name.Octets = as_octets
form_of name.PortInfo = as_octets
form_of name.Data = as_octets
form_of name.Destination = as_address
form_of name.Source = as_address
form_of name.NetworkMessage = as_type
form_of name.ListedNetwork = as_network
form_of name.Networks = as_list
form_of name.Ports = as_list
form_of name.Specifications = as_list
form_of name.Properties = as_list
form_of name.Results = as_list
form_of name.Values = as_list
form_of name.PropertyError = as_list
form_of name.Item = as_item
form_of name.Value = as_value
form_of name.Group = as_group
form_of name.ListEnd = as_parenthesis
form_of name.ItemEnd = as_parenthesis
form_of name.PropertyErrorEnd = as_parenthesis
form_of name.ValueEnd = as_brace
form_of name.GroupEnd = as_brace
form_of name.Boolean = as_truth
form_of name.Unsigned = as_element
form_of name.Enumerated = as_element
form_of name.Signed = as_signed
form_of name.Real = as_contents
form_of name.Double = as_contents
form_of name.OctetString = as_contents
form_of name.Date = as_contents
form_of name.TimeOfDay = as_contents
form_of name.BitString = as_bits
form_of name.ObjectIdentifier = as_identifier
form_of name.CharacterString = as_text
form_of name.ContextPrimitive = as_context
form_of _ = as_number

-- The object with these 32 bits.
abbrev pub object_of : ℕ → Identifier
object_of bits = record { kind = bits / 2 ^ 22; instance = bits % 2 ^ 22 }

-- What is in the line for a field in this form. It takes the name, the number and the contents of the field. It uses the same
-- words as the text of bac_text: decimal numbers, objects, hexadecimal digits, the text of a character string.
abbrev pub shown : Form → FieldValue → List ℕ
shown as_word v = word_of v.name
shown as_number v = word_of v.name ++ (codes "=" ++ number v.number)
shown as_object v = word_of v.name ++ (codes "=" ++ object_text (object_of v.number))
shown as_octets v = word_of v.name ++ (codes "=" ++ hexadecimal v.contents)
shown as_address v = word_of v.name ++ (codes "=" ++ (number v.number ++ (codes "/" ++ address_text v.contents)))
shown as_type v = word_of v.name ++ (codes " type=" ++ hexadecimal (v.number ∷ []))
shown as_network v = number v.number
shown as_list v = word_of v.name ++ codes "=("
shown as_item v = codes "("
shown as_value v = word_of v.name ++ codes "={"
shown as_group v = codes "[" ++ (number v.number ++ codes "]{")
shown as_parenthesis v = codes ")"
shown as_brace v = codes "}"
shown as_truth v = if nat_eq v.number 0 then codes "false" else codes "true"
shown as_element v = word_of v.name ++ (codes ":" ++ number v.number)
shown as_signed v = word_of v.name ++ (codes ":" ++ signed_decimal (cast_signed w64 v.number))
shown as_contents v = word_of v.name ++ (codes ":" ++ hexadecimal v.contents)
shown as_bits v = word_of v.name ++ (codes ":" ++ map bit_digit (bits_in v.contents v.number))
shown as_identifier v = word_of v.name ++ (codes ":" ++ object_text (object_of v.number))
shown as_text v = string_text (record { set = v.number; octets = v.contents })
shown as_context v = codes "[" ++ (number v.number ++ (codes "]" ++ hexadecimal v.contents))

-- Whether a field of this form begins something, so that what is next is the first of it.
abbrev pub begins : Form → Bool
begins as_list = true
begins as_item = true
begins as_value = true
begins as_group = true
begins _ = false

-- What is before a field: a blank, or nothing. Nothing is before the first of something and before an end.
abbrev pub lead : Bool → Form → List ℕ
lead first as_parenthesis = []
lead first as_brace = []
lead first _ = blank first

-- What is shown of fields, one after another, of which the first may be the first of something.
abbrev pub printed_from : Bool → List FieldValue → List ℕ
printed_from first [] = []
printed_from first (v ∷ vs) = (lead first (form_of v.name) ++ shown (form_of v.name) v) ++ printed_from (begins (form_of v.name)) vs

-- The line that has these fields: what is shown of them, one after another, with a blank between two. No blank is before the
-- first, before one that ends something, nor after one that begins something (lead, begins).
abbrev pub printed : List FieldValue → List ℕ
printed = printed_from true
