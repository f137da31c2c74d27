-- Each of the thirteen primitive types is one of the thirteen.
use Rattle.std.proofs.Common.{◌≡◌, ℕ, Bool, List, ◌^◌, ◌-◌, arith, refl}
use Rattle.bac_value.specs.declared.prim.PrimitiveValue.{PrimitiveValue}
use Rattle.bac_value.specs.declared.prim.PrimitiveValue.TheVariants.{Null, Boolean, Unsigned, Signed, RealBits, DoubleBits, Octets, Text, Bits, Enumerated, Date, Time, ObjectId}
use Rattle.bac_value.specs.declared.types.null_value.Null.{Null as NullStruct}
use Rattle.bac_value.specs.declared.types.boolean_value.Boolean.{Boolean as BooleanStruct}
use Rattle.bac_value.specs.declared.types.unsigned_integer.Unsigned.{Unsigned as UnsignedStruct}
use Rattle.bac_value.specs.declared.types.signed_integer.Signed.{Signed as SignedStruct}
use Rattle.bac_value.specs.declared.types.real.RealBits.{RealBits as RealBitsStruct}
use Rattle.bac_value.specs.declared.types.double.DoubleBits.{DoubleBits as DoubleBitsStruct}
use Rattle.bac_value.specs.declared.types.enumeration.Enumerated.{Enumerated as EnumeratedStruct}
use Rattle.bac_value.specs.declared.types.date_value.Date.{Date as DateStruct}
use Rattle.bac_value.specs.declared.types.time_value.Time.{Time as TimeStruct}
use Rattle.bac_value.specs.Primitives.{IsTheList}
use Rattle.bac_value.specs.NullContents.{IsNull, null_octets}
use Rattle.bac_value.specs.BooleanContents.{IsBoolean, boolean_octets}
use Rattle.bac_numbers.specs.Numbers.{NumberContents}
use Rattle.bac_numbers.specs.SignedContents.{SignedContents}
use Rattle.bac_value.specs.RealContents.{IsReal, real_octets}
use Rattle.bac_value.specs.DoubleContents.{IsDouble, double_octets}
use Rattle.bac_value.specs.OctetStringContents.{IsOctetString, octets_themselves}
use Rattle.bac_value.specs.TextContents.{TextValue, IsText, text_octets}
use Rattle.bac_value.specs.BitsContents.{BitsContents}
use Rattle.bac_value.specs.DateContents.{IsDate, date_octets}
use Rattle.bac_value.specs.TimeContents.{IsTime, time_octets}
use Rattle.bac_value.specs.Identifier.{Identifier, IsIdentifier, identifier_octets}
use Rattle.bac_value.specs.PrimContents.{ContentsOf}
use Rattle.bac_value.specs.Variants.{IsVariant}

null_from : (prim : PrimitiveValue) (octets : List ℕ) → ContentsOf 0 prim octets → (value : NullStruct) × (prim ≡ Null value) × (IsTheList IsNull null_octets value octets)
null_from (Null value) octets h = (value, refl, h.1)
null_from prim octets h = absurd (omega (arith, h.0))

pub null_variant : IsVariant 0 (IsTheList IsNull null_octets) Null
null_variant = record { into = λ value octets h. (refl, h); from = null_from }

boolean_from : (prim : PrimitiveValue) (octets : List ℕ) → ContentsOf 1 prim octets → (value : BooleanStruct) × (prim ≡ Boolean value) × (IsTheList IsBoolean boolean_octets value octets)
boolean_from (Boolean value) octets h = (value, refl, h.1)
boolean_from prim octets h = absurd (omega (arith, h.0))

pub boolean_variant : IsVariant 1 (IsTheList IsBoolean boolean_octets) Boolean
boolean_variant = record { into = λ value octets h. (refl, h); from = boolean_from }

unsigned_from : (prim : PrimitiveValue) (octets : List ℕ) → ContentsOf 2 prim octets → (value : UnsignedStruct) × (prim ≡ Unsigned value) × (NumberContents 0 (2 ^ 64 - 1) value.0 octets)
unsigned_from (Unsigned value) octets h = (value, refl, h.1)
unsigned_from prim octets h = absurd (omega (arith, h.0))

pub unsigned_variant : IsVariant 2 (λ (value : UnsignedStruct) octets. NumberContents 0 (2 ^ 64 - 1) value.0 octets) Unsigned
unsigned_variant = record { into = λ value octets h. (refl, h); from = unsigned_from }

signed_from : (prim : PrimitiveValue) (octets : List ℕ) → ContentsOf 3 prim octets → (value : SignedStruct) × (prim ≡ Signed value) × (SignedContents value.0 octets)
signed_from (Signed value) octets h = (value, refl, h.1)
signed_from prim octets h = absurd (omega (arith, h.0))

pub signed_variant : IsVariant 3 (λ (value : SignedStruct) octets. SignedContents value.0 octets) Signed
signed_variant = record { into = λ value octets h. (refl, h); from = signed_from }

real_from : (prim : PrimitiveValue) (octets : List ℕ) → ContentsOf 4 prim octets → (value : RealBitsStruct) × (prim ≡ RealBits value) × (IsTheList IsReal real_octets value octets)
real_from (RealBits value) octets h = (value, refl, h.1)
real_from prim octets h = absurd (omega (arith, h.0))

pub real_variant : IsVariant 4 (IsTheList IsReal real_octets) RealBits
real_variant = record { into = λ value octets h. (refl, h); from = real_from }

double_from : (prim : PrimitiveValue) (octets : List ℕ) → ContentsOf 5 prim octets → (value : DoubleBitsStruct) × (prim ≡ DoubleBits value) × (IsTheList IsDouble double_octets value octets)
double_from (DoubleBits value) octets h = (value, refl, h.1)
double_from prim octets h = absurd (omega (arith, h.0))

pub double_variant : IsVariant 5 (IsTheList IsDouble double_octets) DoubleBits
double_variant = record { into = λ value octets h. (refl, h); from = double_from }

octets_from : (prim : PrimitiveValue) (octets : List ℕ) → ContentsOf 6 prim octets → (value : List ℕ) × (prim ≡ Octets value) × (IsTheList IsOctetString octets_themselves value octets)
octets_from (Octets value) octets h = (value, refl, h.1)
octets_from prim octets h = absurd (omega (arith, h.0))

pub octets_variant : IsVariant 6 (IsTheList IsOctetString octets_themselves) Octets
octets_variant = record { into = λ value octets h. (refl, h); from = octets_from }

text_from : (prim : PrimitiveValue) (octets : List ℕ) → ContentsOf 7 prim octets → (value : TextValue) × (prim ≡ Text value) × (IsTheList IsText text_octets value octets)
text_from (Text value) octets h = (value, refl, h.1)
text_from prim octets h = absurd (omega (arith, h.0))

pub text_variant : IsVariant 7 (IsTheList IsText text_octets) Text
text_variant = record { into = λ value octets h. (refl, h); from = text_from }

bits_from : (prim : PrimitiveValue) (octets : List ℕ) → ContentsOf 8 prim octets → (value : List Bool) × (prim ≡ Bits value) × (BitsContents value octets)
bits_from (Bits value) octets h = (value, refl, h.1)
bits_from prim octets h = absurd (omega (arith, h.0))

pub bits_variant : IsVariant 8 BitsContents Bits
bits_variant = record { into = λ value octets h. (refl, h); from = bits_from }

enumerated_from : (prim : PrimitiveValue) (octets : List ℕ) → ContentsOf 9 prim octets → (value : EnumeratedStruct) × (prim ≡ Enumerated value) × (NumberContents 0 (2 ^ 32 - 1) value.0 octets)
enumerated_from (Enumerated value) octets h = (value, refl, h.1)
enumerated_from prim octets h = absurd (omega (arith, h.0))

pub enumerated_variant : IsVariant 9 (λ (value : EnumeratedStruct) octets. NumberContents 0 (2 ^ 32 - 1) value.0 octets) Enumerated
enumerated_variant = record { into = λ value octets h. (refl, h); from = enumerated_from }

date_from : (prim : PrimitiveValue) (octets : List ℕ) → ContentsOf 10 prim octets → (value : DateStruct) × (prim ≡ Date value) × (IsTheList IsDate date_octets value octets)
date_from (Date value) octets h = (value, refl, h.1)
date_from prim octets h = absurd (omega (arith, h.0))

pub date_variant : IsVariant 10 (IsTheList IsDate date_octets) Date
date_variant = record { into = λ value octets h. (refl, h); from = date_from }

time_from : (prim : PrimitiveValue) (octets : List ℕ) → ContentsOf 11 prim octets → (value : TimeStruct) × (prim ≡ Time value) × (IsTheList IsTime time_octets value octets)
time_from (Time value) octets h = (value, refl, h.1)
time_from prim octets h = absurd (omega (arith, h.0))

pub time_variant : IsVariant 11 (IsTheList IsTime time_octets) Time
time_variant = record { into = λ value octets h. (refl, h); from = time_from }

object_id_from : (prim : PrimitiveValue) (octets : List ℕ) → ContentsOf 12 prim octets → (value : Identifier) × (prim ≡ ObjectId value) × (IsTheList IsIdentifier identifier_octets value octets)
object_id_from (ObjectId value) octets h = (value, refl, h.1)
object_id_from prim octets h = absurd (omega (arith, h.0))

pub object_id_variant : IsVariant 12 (IsTheList IsIdentifier identifier_octets) ObjectId
object_id_variant = record { into = λ value octets h. (refl, h); from = object_id_from }
