-- The text of primitive values.
use Rattle.std.specs.Prelude.{ℕ, Bool, List, ◌++◌, ◌&&◌, ◌==◌, map, not, nat_lt, if◌then◌else◌, codes}
use Rattle.std.specs.Fmt.{signed_decimal}
use Rattle.std.specs.Int.{w32, w64, to_be_bytes}
use Rattle.std.specs.List.{list_all}
use Rattle.std.specs.Str.{is_utf8}
use Rattle.bac_value.specs.TextContents.{TextValue}
use Rattle.bac_value.specs.declared.prim.PrimitiveValue.{PrimitiveValue}
use Rattle.bac_value.specs.declared.prim.PrimitiveValue.TheVariants.{Null, Boolean, Unsigned, Signed, RealBits, DoubleBits, Octets, Text, Bits, Enumerated, Date, Time, ObjectId}
use Rattle.bac_record.specs.Digits.{hexadecimal}
use Rattle.bac_text.specs.Words.{number, field, object_text}

-- True if an octet is no control octet, no quotation mark, no backslash and no delete, which is 127.
abbrev pub is_plain_octet : ℕ → Bool
is_plain_octet octet = not (nat_lt octet 32) && (not (octet == 34) && (not (octet == 92) && not (octet == 127)))

-- True if the octets of a text are shown as they are. The set of the text is 0, its octets are UTF-8, and each of
-- them is plain: none is a control octet, a quotation mark, a backslash or 127.
abbrev pub is_plain : TextValue → Bool
is_plain text = text.set == 0 && (list_all is_plain_octet text.octets && is_utf8 text.octets)

-- The text of a character string: a plain one in quotation marks, any other as the number of its set and its octets.
abbrev pub string_text : TextValue → List ℕ
string_text text =
    if is_plain text then field "s:\"" text.octets ++ codes "\"" else field "s" (number text.set) ++ field ":" (hexadecimal text.octets)

-- The digit of a bit: 1 if it is set, else 0.
abbrev pub bit_digit : Bool → ℕ
bit_digit bit = if bit then 49 else 48

-- The text of a value of each of the thirteen types.
abbrev pub primitive_text : PrimitiveValue → List ℕ
primitive_text (Null value) = codes "null"
primitive_text (Boolean value) = if value.0 then codes "true" else codes "false"
primitive_text (Unsigned value) = field "u:" (number value.0)
primitive_text (Signed value) = field "i:" (signed_decimal value.0)
primitive_text (RealBits value) = field "r:" (hexadecimal (to_be_bytes w32 value.0))
primitive_text (DoubleBits value) = field "d:" (hexadecimal (to_be_bytes w64 value.0))
primitive_text (Octets octets) = field "o:" (hexadecimal octets)
primitive_text (Text text) = string_text text
primitive_text (Bits bits) = field "b:" (map bit_digit bits)
primitive_text (Enumerated value) = field "e:" (number value.0)
primitive_text (Date value) = field "D:" (hexadecimal value.0)
primitive_text (Time value) = field "T:" (hexadecimal value.0)
primitive_text (ObjectId object) = field "id:" (object_text object)
