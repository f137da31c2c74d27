-- It is the value whose contents they are.
use Rattle.std.specs.Prelude.{nat_eq, ℤ, if◌then◌else◌}
use Rattle.std.proofs.Common.{◌≡◌, ℕ, Bool, true, false, ◌<◌, ◌^◌, ◌*◌, ◌+◌, ◌/◌, ◌%◌, List, [], ◌∷◌, drop, get_or, arith, ap, refl, sym, ◌∙◌}
use Rattle.std.specs.Int.{w32, w64, from_be_bytes}
use Rattle.std.proofs.lemmas.Nat.{from_be_bytes-to_be_bytes_4, from_be_bytes-to_be_bytes_8}
use Rattle.bac_value.specs.declared.types.boolean_value.Boolean.{Boolean as BooleanStruct}
use Rattle.bac_value.specs.declared.types.unsigned_integer.Unsigned.{Unsigned as UnsignedStruct}
use Rattle.bac_value.specs.declared.types.signed_integer.Signed.{Signed as SignedStruct}
use Rattle.bac_value.specs.declared.types.real.RealBits.{RealBits as RealStruct}
use Rattle.bac_value.specs.declared.types.double.DoubleBits.{DoubleBits as DoubleStruct}
use Rattle.bac_value.specs.declared.types.enumeration.Enumerated.{Enumerated as EnumeratedStruct}
use Rattle.bac_value.specs.declared.types.date_value.Date.{Date as DateStruct}
use Rattle.bac_value.specs.declared.types.time_value.Time.{Time as TimeStruct}
use Rattle.bac_value.specs.declared.prim.PrimitiveValue.{PrimitiveValue}
use Rattle.bac_value.specs.declared.prim.PrimitiveValue.TheVariants.{Null, Boolean, Unsigned, Signed, RealBits, DoubleBits, Octets, Text, Bits, Enumerated, Date, Time, ObjectId}
use Rattle.bac_value.specs.RealContents.{real_octets}
use Rattle.bac_value.specs.DoubleContents.{double_octets}
use Rattle.bac_value.specs.TextContents.{TextValue}
use Rattle.bac_value.specs.Laws.Bits.{bits_of_contents}
use Rattle.bac_value.specs.Identifier.{Identifier, identifier_octets}
use Rattle.bac_value.specs.PrimContents.{application_number, PrimContents, ContentsOf}
use Rattle.bac_value.specs.PrimOfContents.{identifier_of, prim_of_contents}

boolean_bit : (bit : Bool) → nat_eq (get_or ((if bit then 1 else 0) ∷ []) 0 0) 1 ≡ bit
boolean_bit true = refl
boolean_bit false = refl

real_back : (value : RealStruct) (octets : List ℕ) → value.0 < 2 ^ 32 → octets ≡ real_octets value → from_be_bytes w32 octets ≡ value.0
unfolding real_octets
real_back value octets h e = ap (from_be_bytes w32) e ∙ from_be_bytes-to_be_bytes_4 value.0 h

double_back : (value : DoubleStruct) (octets : List ℕ) → value.0 < 2 ^ 64 → octets ≡ double_octets value → from_be_bytes w64 octets ≡ value.0
unfolding double_octets
double_back value octets h e = ap (from_be_bytes w64) e ∙ from_be_bytes-to_be_bytes_8 value.0 h

identifier_back : (id : Identifier) (octets : List ℕ) → id.kind < 2 ^ 10 → id.instance < 2 ^ 22 → octets ≡ identifier_octets id → identifier_of octets ≡ id
unfolding identifier_octets
identifier_back id octets k i e =
    let n : from_be_bytes w32 octets ≡ id.kind * 2 ^ 22 + id.instance = ap (from_be_bytes w32) e ∙ from_be_bytes-to_be_bytes_4 (id.kind * 2 ^ 22 + id.instance) (omega arith) in
    let kind : from_be_bytes w32 octets / 2 ^ 22 ≡ id.kind = omega (arith, n) in
    let instance : from_be_bytes w32 octets % 2 ^ 22 ≡ id.instance = omega (arith, n) in
    ap (λ (k : ℕ). let v : Identifier = record { kind = k; instance = from_be_bytes w32 octets % 2 ^ 22 } in v) kind ∙ ap (λ (i : ℕ). let v : Identifier = record { kind = id.kind; instance = i } in v) instance

back : (prim : PrimitiveValue) (octets : List ℕ) → PrimContents prim octets → prim_of_contents (application_number prim) octets ≡ prim
back (Null value) octets h = refl
back (Boolean value) octets h = ap (λ (bit : Bool). let v : BooleanStruct = record { 0 = bit } in Boolean v) (ap (λ (l : List ℕ). nat_eq (get_or l 0 0) 1) h.is ∙ boolean_bit value.0)
back (Unsigned value) octets h = ap (λ (n : ℕ). let v : UnsignedStruct = record { 0 = n } in Unsigned v) h.is
back (Signed value) octets h = ap (λ (n : ℤ). let v : SignedStruct = record { 0 = n } in Signed v) h.is
back (RealBits value) octets h = ap (λ (n : ℕ). let v : RealStruct = record { 0 = n } in RealBits v) (real_back value octets h.value_holds h.is)
back (DoubleBits value) octets h = ap (λ (n : ℕ). let v : DoubleStruct = record { 0 = n } in DoubleBits v) (double_back value octets h.value_holds h.is)
back (Octets value) octets h = ap Octets h.is
back (Text value) octets h = ap (λ (l : List ℕ). let v : TextValue = record { set = get_or l 0 0; octets = drop 1 l } in Text v) h.is
back (Bits value) octets h = ap Bits (bits_of_contents value octets h)
back (Enumerated value) octets h = ap (λ (n : ℕ). let v : EnumeratedStruct = record { 0 = n } in Enumerated v) h.is
back (Date value) octets h = ap (λ (l : List ℕ). let v : DateStruct = record { 0 = l } in Date v) h.is
back (Time value) octets h = ap (λ (l : List ℕ). let v : TimeStruct = record { 0 = l } in Time v) h.is
back (ObjectId value) octets h = ap ObjectId (identifier_back value octets h.value_holds.0 h.value_holds.1 h.is)

pub prim_of_contents_is : (n : ℕ) (prim : PrimitiveValue) (octets : List ℕ) → ContentsOf n prim octets → prim_of_contents n octets ≡ prim
prim_of_contents_is n prim octets h = ap (λ (k : ℕ). prim_of_contents k octets) (sym h.0) ∙ back prim octets h.1
