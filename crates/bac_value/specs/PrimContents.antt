-- A value of any of the thirteen primitive types (clauses 20.2.2 to 20.2.14). It is a Prim, here by the name of its declaration
-- PrimitiveValue: a variant for each type. The first four of these definitions have a line for each type.
use Rattle.std.specs.Prelude.{◌≡◌, ℕ, ◌<◌, ◌≤◌, ◌^◌, ◌-◌, List, FitsSigned}
use Rattle.std.specs.Int.{w64}
use Rattle.bac_value.specs.declared.prim.PrimitiveValue.{PrimitiveValue}
use Rattle.bac_value.specs.declared.prim.PrimitiveValue.TheVariants.{Null, Boolean, Unsigned, Signed, RealBits, DoubleBits, Octets, Text, Bits, Enumerated, Date, Time, ObjectId}
use Rattle.bac_value.specs.Primitives.{IsTheList, IsWritten}
use Rattle.bac_value.specs.NullContents.{IsNull, null_octets}
use Rattle.bac_value.specs.BooleanContents.{IsBoolean, boolean_octets}
use Rattle.bac_numbers.specs.Numbers.{NumberContents, least_number}
use Rattle.bac_numbers.specs.SignedContents.{SignedContents, least_signed}
use Rattle.bac_value.specs.RealContents.{IsReal, real_octets}
use Rattle.bac_value.specs.DoubleContents.{IsDouble, double_octets}
use Rattle.bac_value.specs.OctetStringContents.{IsOctetString, octets_themselves}
use Rattle.bac_value.specs.TextContents.{IsText, text_octets}
use Rattle.bac_value.specs.BitsContents.{IsBits, BitsContents, least_bits}
use Rattle.bac_value.specs.DateContents.{IsDate, date_octets}
use Rattle.bac_value.specs.TimeContents.{IsTime, time_octets}
use Rattle.bac_value.specs.Identifier.{IsIdentifier, identifier_octets}

-- The number of the application tag of the value's type, 0 to 12.
abbrev pub application_number : PrimitiveValue → ℕ
application_number (Null value) = 0
application_number (Boolean value) = 1
application_number (Unsigned value) = 2
application_number (Signed value) = 3
application_number (RealBits value) = 4
application_number (DoubleBits value) = 5
application_number (Octets value) = 6
application_number (Text value) = 7
application_number (Bits value) = 8
application_number (Enumerated value) = 9
application_number (Date value) = 10
application_number (Time value) = 11
application_number (ObjectId value) = 12

-- Each number of the value is in its range, and each limit is kept.
abbrev pub IsPrim : PrimitiveValue → Type 0
IsPrim (Null value) = IsNull value
IsPrim (Boolean value) = IsBoolean value
IsPrim (Unsigned value) = value.0 < 2 ^ 64
IsPrim (Signed value) = FitsSigned w64 value.0
IsPrim (RealBits value) = IsReal value
IsPrim (DoubleBits value) = IsDouble value
IsPrim (Octets value) = IsOctetString value
IsPrim (Text value) = IsText value
IsPrim (Bits value) = IsBits value
IsPrim (Enumerated value) = value.0 < 2 ^ 32
IsPrim (Date value) = IsDate value
IsPrim (Time value) = IsTime value
IsPrim (ObjectId value) = IsIdentifier value

-- The octets are contents of the value, by the definition of its type.
abbrev pub PrimContents : PrimitiveValue → List ℕ → Type 0
PrimContents (Null value) octets = IsTheList IsNull null_octets value octets
PrimContents (Boolean value) octets = IsTheList IsBoolean boolean_octets value octets
PrimContents (Unsigned value) octets = NumberContents 0 (2 ^ 64 - 1) value.0 octets
PrimContents (Signed value) octets = SignedContents value.0 octets
PrimContents (RealBits value) octets = IsTheList IsReal real_octets value octets
PrimContents (DoubleBits value) octets = IsTheList IsDouble double_octets value octets
PrimContents (Octets value) octets = IsTheList IsOctetString octets_themselves value octets
PrimContents (Text value) octets = IsTheList IsText text_octets value octets
PrimContents (Bits value) octets = BitsContents value octets
PrimContents (Enumerated value) octets = NumberContents 0 (2 ^ 32 - 1) value.0 octets
PrimContents (Date value) octets = IsTheList IsDate date_octets value octets
PrimContents (Time value) octets = IsTheList IsTime time_octets value octets
PrimContents (ObjectId value) octets = IsTheList IsIdentifier identifier_octets value octets

-- The contents that are written of the value, by the definition of its type.
abbrev pub prim_written : PrimitiveValue → List ℕ
prim_written (Null value) = null_octets value
prim_written (Boolean value) = boolean_octets value
prim_written (Unsigned value) = least_number value.0
prim_written (Signed value) = least_signed value.0
prim_written (RealBits value) = real_octets value
prim_written (DoubleBits value) = double_octets value
prim_written (Octets value) = octets_themselves value
prim_written (Text value) = text_octets value
prim_written (Bits value) = least_bits value
prim_written (Enumerated value) = least_number value.0
prim_written (Date value) = date_octets value
prim_written (Time value) = time_octets value
prim_written (ObjectId value) = identifier_octets value

-- The value is of the type with that application number, and the octets are contents of it.
abbrev pub ContentsOf : ℕ → PrimitiveValue → List ℕ → Type 0
ContentsOf number prim octets = (application_number prim ≡ number) × PrimContents prim octets

-- The octets are what is written of some value of the type with that application number, by IsWritten.
abbrev pub IsWrittenOf : ℕ → List ℕ → Type 0
IsWrittenOf number = IsWritten (ContentsOf number) prim_written

-- Reading contents of the type with that application number may need memory. The number is 6, 7 or 8, that of one of the three
-- strings. Only reading the contents of these may need memory.
abbrev pub MayWantMemory : ℕ → Type 0
MayWantMemory number = (6 ≤ number) × (number ≤ 8)
