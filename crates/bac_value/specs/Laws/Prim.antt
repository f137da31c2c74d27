-- Laws of a value of any of the thirteen primitive types.
use Rattle.std.proofs.Common.{◌≡◌, ◌≤◌, ℕ, List, ◌^◌, ◌-◌, length, arith, ap, lit≤}
use Rattle.bac_value.specs.declared.prim.PrimitiveValue.{PrimitiveValue}
use Rattle.bac_value.specs.declared.prim.PrimitiveValue.TheVariants.{Null, Boolean, Unsigned, Signed, RealBits, DoubleBits, Octets, Text, Bits, Enumerated, Date, Time, ObjectId}
use Rattle.bac_tag.specs.Octets.{NoGreater}
use Rattle.bac_value.specs.Laws.Primitives.{the_list_written, the_list_least, the_list_once}
use Rattle.bac_value.specs.NullContents.{IsNull, null_octets}
use Rattle.bac_value.specs.Laws.AnyOctets.{any_octets_once, any_octets_lengths}
use Rattle.bac_value.specs.Laws.Null.{null_any_octets}
use Rattle.bac_value.specs.BooleanContents.{IsBoolean, boolean_octets}
use Rattle.bac_value.specs.Laws.Boolean.{boolean_once, boolean_lengths}
use Rattle.bac_numbers.specs.Laws.Numbers.{number_range, number_written, number_least, number_lengths}
use Rattle.bac_value.specs.Laws.Unsigned.{one_unsigned}
use Rattle.bac_value.specs.Laws.Enumerated.{one_enumerated}
use Rattle.bac_numbers.specs.Laws.Signed.{signed_only_values, signed_written, signed_least, signed_lengths}
use Rattle.bac_value.specs.Laws.SignedValues.{one_signed}
use Rattle.bac_value.specs.RealContents.{IsReal, real_octets}
use Rattle.bac_value.specs.Laws.Real.{real_any_octets}
use Rattle.bac_value.specs.DoubleContents.{IsDouble, double_octets}
use Rattle.bac_value.specs.Laws.Double.{double_any_octets}
use Rattle.bac_value.specs.OctetStringContents.{IsOctetString, octets_themselves}
use Rattle.bac_value.specs.Laws.OctetString.{octet_string_any_octets}
use Rattle.bac_value.specs.TextContents.{IsText, text_octets}
use Rattle.bac_value.specs.Laws.Text.{text_any_octets}
use Rattle.bac_value.specs.Laws.Bits.{bits_once, bits_only_values, bits_written, bits_least, bits_lengths}
use Rattle.bac_value.specs.DateContents.{IsDate, date_octets}
use Rattle.bac_value.specs.Laws.Date.{date_any_octets}
use Rattle.bac_value.specs.TimeContents.{IsTime, time_octets}
use Rattle.bac_value.specs.Laws.Time.{time_any_octets}
use Rattle.bac_value.specs.Identifier.{IsIdentifier, identifier_octets}
use Rattle.bac_value.specs.Laws.Identifier.{identifier_any_octets}
use Rattle.bac_value.specs.PrimContents.{application_number, IsPrim, PrimContents, prim_written}

-- under one application number no octets are contents of two values
pub prim_once : (a b : PrimitiveValue) (octets : List ℕ) → application_number a ≡ application_number b → PrimContents a octets → PrimContents b octets → a ≡ b
prim_once (Null a) (Null b) octets e p q = ap Null (any_octets_once null_any_octets a b octets p q)
prim_once (Boolean a) (Boolean b) octets e p q = ap Boolean (the_list_once IsBoolean boolean_octets boolean_once a b octets p q)
prim_once (Unsigned a) (Unsigned b) octets e p q = ap Unsigned (one_unsigned a b octets p q)
prim_once (Signed a) (Signed b) octets e p q = ap Signed (one_signed a b octets p q)
prim_once (RealBits a) (RealBits b) octets e p q = ap RealBits (any_octets_once real_any_octets a b octets p q)
prim_once (DoubleBits a) (DoubleBits b) octets e p q = ap DoubleBits (any_octets_once double_any_octets a b octets p q)
prim_once (Octets a) (Octets b) octets e p q = ap Octets (any_octets_once octet_string_any_octets a b octets p q)
prim_once (Text a) (Text b) octets e p q = ap Text (any_octets_once text_any_octets a b octets p q)
prim_once (Bits a) (Bits b) octets e p q = ap Bits (bits_once a b octets p q)
prim_once (Enumerated a) (Enumerated b) octets e p q = ap Enumerated (one_enumerated a b octets p q)
prim_once (Date a) (Date b) octets e p q = ap Date (any_octets_once date_any_octets a b octets p q)
prim_once (Time a) (Time b) octets e p q = ap Time (any_octets_once time_any_octets a b octets p q)
prim_once (ObjectId a) (ObjectId b) octets e p q = ap ObjectId (any_octets_once identifier_any_octets a b octets p q)
prim_once a b octets e p q = absurd (omega arith)

-- only values have contents
pub prim_only_values : (prim : PrimitiveValue) (octets : List ℕ) → PrimContents prim octets → IsPrim prim
prim_only_values (Null value) octets h = h.value_holds
prim_only_values (Boolean value) octets h = h.value_holds
prim_only_values (Unsigned value) octets h = number_range 64 value.0 octets h
prim_only_values (Signed value) octets h = signed_only_values value.0 octets h
prim_only_values (RealBits value) octets h = h.value_holds
prim_only_values (DoubleBits value) octets h = h.value_holds
prim_only_values (Octets value) octets h = h.value_holds
prim_only_values (Text value) octets h = h.value_holds
prim_only_values (Bits value) octets h = bits_only_values value octets h
prim_only_values (Enumerated value) octets h = number_range 32 value.0 octets h
prim_only_values (Date value) octets h = h.value_holds
prim_only_values (Time value) octets h = h.value_holds
prim_only_values (ObjectId value) octets h = h.value_holds

-- what is written of a value are contents of it,
pub prim_written_contents : (prim : PrimitiveValue) → IsPrim prim → PrimContents prim (prim_written prim)
prim_written_contents (Null value) h = the_list_written IsNull null_octets value h
prim_written_contents (Boolean value) h = the_list_written IsBoolean boolean_octets value h
prim_written_contents (Unsigned value) h = number_written 64 value.0 (lit≤ tt) h
prim_written_contents (Signed value) h = signed_written value.0 h
prim_written_contents (RealBits value) h = the_list_written IsReal real_octets value h
prim_written_contents (DoubleBits value) h = the_list_written IsDouble double_octets value h
prim_written_contents (Octets value) h = the_list_written IsOctetString octets_themselves value h
prim_written_contents (Text value) h = the_list_written IsText text_octets value h
prim_written_contents (Bits value) h = bits_written value h
prim_written_contents (Enumerated value) h = number_written 32 value.0 (lit≤ tt) h
prim_written_contents (Date value) h = the_list_written IsDate date_octets value h
prim_written_contents (Time value) h = the_list_written IsTime time_octets value h
prim_written_contents (ObjectId value) h = the_list_written IsIdentifier identifier_octets value h

-- and they are no greater than any others
pub prim_written_least : (prim : PrimitiveValue) (octets : List ℕ) → PrimContents prim octets → NoGreater (prim_written prim) octets
prim_written_least (Null value) octets h = the_list_least IsNull null_octets value octets h
prim_written_least (Boolean value) octets h = the_list_least IsBoolean boolean_octets value octets h
prim_written_least (Unsigned value) octets h = number_least 0 (2 ^ 64 - 1) value.0 octets h
prim_written_least (Signed value) octets h = signed_least value.0 octets h
prim_written_least (RealBits value) octets h = the_list_least IsReal real_octets value octets h
prim_written_least (DoubleBits value) octets h = the_list_least IsDouble double_octets value octets h
prim_written_least (Octets value) octets h = the_list_least IsOctetString octets_themselves value octets h
prim_written_least (Text value) octets h = the_list_least IsText text_octets value octets h
prim_written_least (Bits value) octets h = bits_least value octets h
prim_written_least (Enumerated value) octets h = number_least 0 (2 ^ 32 - 1) value.0 octets h
prim_written_least (Date value) octets h = the_list_least IsDate date_octets value octets h
prim_written_least (Time value) octets h = the_list_least IsTime time_octets value octets h
prim_written_least (ObjectId value) octets h = the_list_least IsIdentifier identifier_octets value octets h

-- and none have more octets than a value may have
pub prim_limit : (prim : PrimitiveValue) (octets : List ℕ) → PrimContents prim octets → length octets ≤ 1048576
prim_limit (Null value) octets h = omega (arith, (any_octets_lengths null_any_octets value octets h).1)
prim_limit (Boolean value) octets h = omega (arith, (boolean_lengths value octets h).1)
prim_limit (Unsigned value) octets h = omega (arith, (number_lengths 0 (2 ^ 64 - 1) value.0 octets h).1)
prim_limit (Signed value) octets h = omega (arith, (signed_lengths value.0 octets h).1)
prim_limit (RealBits value) octets h = omega (arith, (any_octets_lengths real_any_octets value octets h).1)
prim_limit (DoubleBits value) octets h = omega (arith, (any_octets_lengths double_any_octets value octets h).1)
prim_limit (Octets value) octets h = (any_octets_lengths octet_string_any_octets value octets h).1
prim_limit (Text value) octets h = (any_octets_lengths text_any_octets value octets h).1
prim_limit (Bits value) octets h = (bits_lengths value octets h).1
prim_limit (Enumerated value) octets h = omega (arith, (number_lengths 0 (2 ^ 32 - 1) value.0 octets h).1)
prim_limit (Date value) octets h = omega (arith, (any_octets_lengths date_any_octets value octets h).1)
prim_limit (Time value) octets h = omega (arith, (any_octets_lengths time_any_octets value octets h).1)
prim_limit (ObjectId value) octets h = omega (arith, (any_octets_lengths identifier_any_octets value octets h).1)
