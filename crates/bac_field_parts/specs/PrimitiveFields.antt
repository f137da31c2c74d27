-- The fields of primitive values (clauses 20.2.2 to 20.2.14).
use Rattle.std.specs.Prelude.{ℕ, ◌+◌, ◌-◌, ◌*◌, ◌^◌, Bool, List, [], ◌∷◌, ◌++◌, length, if◌then◌else◌}
use Rattle.std.specs.Int.{w64, cast_unsigned}
use Rattle.bac_tag.specs.Writing.{narrow_head, narrow_opening}
use Rattle.bac_numbers.specs.Numbers.{least_number}
use Rattle.bac_numbers.specs.SignedContents.{least_signed}
use Rattle.bac_value.specs.RealContents.{real_octets}
use Rattle.bac_value.specs.DoubleContents.{double_octets}
use Rattle.bac_value.specs.TextContents.{TextValue, text_octets}
use Rattle.bac_value.specs.BitsContents.{packed_bits, octets_for}
use Rattle.bac_value.specs.DateContents.{date_octets}
use Rattle.bac_value.specs.TimeContents.{time_octets}
use Rattle.bac_value.specs.Identifier.{Identifier, identifier_octets}
use Rattle.bac_value.specs.declared.prim.PrimitiveValue.{PrimitiveValue}
use Rattle.bac_value.specs.declared.prim.PrimitiveValue.TheVariants.{Null, Boolean, Unsigned, Signed, RealBits, DoubleBits, Octets, Text, Bits, Enumerated, Date, Time, ObjectId}
use Rattle.bac_field_parts.specs.declared.names.Name.{Name}
use Rattle.bac_field_parts.specs.declared.names.Name.TheVariants as name
use Rattle.bac_field_parts.specs.Fields.{FieldValue, under_tag, under_type}

-- A truth value as a number, 0 or 1.
abbrev pub truth : Bool → ℕ
truth value = if value then 1 else 0

-- The 32 bits of an object identifier, as a number.
abbrev pub object_number : Identifier → ℕ
object_number object = object.kind * 2 ^ 22 + object.instance

-- The field of a Boolean, which has no contents: its tag says which it is.
abbrev pub boolean_field : Bool → FieldValue
boolean_field value = record { name = name.Boolean; number = truth value; head = narrow_opening 0 1 (truth value); contents = [] }

-- The field of a character string. The octet with the set belongs to the head.
abbrev pub text_field : TextValue → FieldValue
text_field text = record { name = name.CharacterString; number = text.set; head = narrow_head 0 7 (length (text_octets text)) ++ text.set ∷ []; contents = text.octets }

-- The field of a bit string. The octet with the count of unused bits belongs to the head.
abbrev pub bits_field : List Bool → FieldValue
bits_field bits =
    record { name = name.BitString; number = length bits; head = narrow_head 0 8 (1 + octets_for (length bits)) ++ (8 * octets_for (length bits) - length bits) ∷ []; contents = packed_bits bits }

-- The field of a value of any primitive type, under its application tag, with a line for each type. Three of them are more than
-- contents under a tag: boolean_field, text_field and bits_field.
abbrev pub primitive_field : PrimitiveValue → FieldValue
primitive_field (Null value) = under_type name.Null 0 0 []
primitive_field (Boolean value) = boolean_field value.0
primitive_field (Unsigned value) = under_type name.Unsigned 2 value.0 (least_number value.0)
primitive_field (Signed value) = under_type name.Signed 3 (cast_unsigned w64 value.0) (least_signed value.0)
primitive_field (RealBits value) = under_type name.Real 4 value.0 (real_octets value)
primitive_field (DoubleBits value) = under_type name.Double 5 value.0 (double_octets value)
primitive_field (Octets octets) = under_type name.OctetString 6 0 octets
primitive_field (Text text) = text_field text
primitive_field (Bits bits) = bits_field bits
primitive_field (Enumerated value) = under_type name.Enumerated 9 value.0 (least_number value.0)
primitive_field (Date value) = under_type name.Date 10 0 (date_octets value)
primitive_field (Time value) = under_type name.TimeOfDay 11 0 (time_octets value)
primitive_field (ObjectId object) = under_type name.ObjectIdentifier 12 (object_number object) (identifier_octets object)

-- ---- numbers under tags

-- The field of a number, an Unsigned or an Enumerated, under a context tag.
abbrev pub number_under : Name → ℕ → ℕ → FieldValue
number_under name tag number = under_tag name tag number (least_number number)

-- The field of a truth value under a context tag.
abbrev pub truth_under : Name → ℕ → Bool → FieldValue
truth_under name tag value = under_tag name tag (truth value) (truth value ∷ [])

-- The field of an object under a context tag.
abbrev pub object_under : Name → ℕ → Identifier → FieldValue
object_under name tag object = under_tag name tag (object_number object) (identifier_octets object)

-- The field of an Unsigned under its application tag.
abbrev pub unsigned_field : Name → ℕ → FieldValue
unsigned_field name number = under_type name 2 number (least_number number)

-- The field of an Enumerated under its application tag.
abbrev pub enumerated_field : Name → ℕ → FieldValue
enumerated_field name number = under_type name 9 number (least_number number)

-- The field of an object under its application tag.
abbrev pub object_field : Name → Identifier → FieldValue
object_field name object = under_type name 12 (object_number object) (identifier_octets object)
