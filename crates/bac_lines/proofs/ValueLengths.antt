-- How many octets the texts of numbers, of primitive values and of open values have.
-- Each octet that spells a frame pays for fifteen octets of its text. In this file and the others of lengths, a lemma whose name
-- ends in paid says that the octets of a part pay for its text, and often for some octets of text around it.
use Rattle.std.specs.Fmt.{signed_decimal}
use Rattle.std.specs.Int.{w64}
use Rattle.std.specs.Prelude.{FitsSigned, codes, if◌then◌else◌}
use Rattle.std.proofs.Common.{◌≡◌, ℕ, suc, ◌+◌, ◌*◌, ◌^◌, ◌<◌, ◌≤◌, Bool, true, false, List, [], ◌∷◌, ◌++◌, length, ap, arith, lit≤, lit<, inl, inr, ℤ, pos, negsuc}
use Rattle.std.proofs.lemmas.Fmt.{length-decimal-le}
use Rattle.std.proofs.lemmas.List.{length-append, length-map}
use Rattle.bac_tag.specs.declared.heads.TagHead.TheVariants.{AppBool, Open, Close}
use Rattle.bac_tag.specs.Spelling.{Joins}
use Rattle.bac_tag.proofs.MarksLemmas.{spelled_some}
use Rattle.bac_value.specs.Identifier.{Identifier, IsIdentifier}
use Rattle.bac_value.specs.TextContents.{TextValue}
use Rattle.bac_value.specs.BitsContents.{BitsContents}
use Rattle.bac_value.specs.declared.prim.PrimitiveValue.{PrimitiveValue}
use Rattle.bac_value.specs.declared.prim.PrimitiveValue.TheVariants.{Null, Boolean, Unsigned, Signed, RealBits, DoubleBits, Octets, Text, Bits, Enumerated, Date, Time, ObjectId}
use Rattle.bac_value.specs.PrimContents.{PrimContents}
use Rattle.bac_value.specs.Laws.AnyOctets.{any_octets_lengths}
use Rattle.bac_value.specs.Laws.Double.{double_any_octets}
use Rattle.bac_value.specs.Laws.Identifier.{identifier_any_octets}
use Rattle.bac_value.specs.Laws.Prim.{prim_only_values}
use Rattle.bac_data.specs.OpenValue.{Element, primitive, context, group, Elements, none, more}
use Rattle.bac_data.specs.Spells.{SpellsPrimitive, Spells, SpellsAll, SpellsOpen}
use Rattle.bac_record.specs.Digits.{hexadecimal}
use Rattle.bac_text.specs.Words.{number, truth, field, object_text}
use Rattle.bac_text.specs.PrimitiveText.{is_plain, bit_digit, primitive_text}
use Rattle.bac_text.specs.OpenValueText.{element_text, elements_text, further_text, open_text}
use Rattle.bac_lines.proofs.Hexes.{hex_length}

-- ---- numbers

-- the most digits of an octet
pub three_digits : (n : ℕ) → n < 256 → length (number n) ≤ 3
three_digits n small = length-decimal-le 3 n (lit< tt) (omega (arith, small)) (omega (arith, small))

-- those of a number of 16 bits
pub five_digits : (n : ℕ) → n < 2 ^ 16 → length (number n) ≤ 5
five_digits n small = length-decimal-le 5 n (lit< tt) (omega (arith, small)) (omega (arith, small))

-- those of a number of 32 bits
pub ten_digits : (n : ℕ) → n < 2 ^ 32 → length (number n) ≤ 10
ten_digits n small = length-decimal-le 10 n (lit< tt) (omega (arith, small)) (omega (arith, small))

-- those of a number of 64 bits
pub twenty_digits : (n : ℕ) → n < 2 ^ 64 → length (number n) ≤ 20
twenty_digits n small = let limit : 2 ^ 64 ≤ 10 ^ 20 = lit≤ tt in length-decimal-le 20 n (lit< tt) (omega (arith, small, limit)) small

-- those of a signed number, with its minus
signed_digits : (z : ℤ) → FitsSigned w64 z → length (signed_decimal z) ≤ 21
signed_digits (pos n) fits = let small : n < 2 ^ 63 = fits.sfits in omega (arith, twenty_digits n (omega (arith, small)))
signed_digits (negsuc n) fits = let small : n < 2 ^ 63 = fits.sfits in omega (arith, twenty_digits (suc n) (omega (arith, small)))

-- a truth value is one digit
pub one_digit : (value : Bool) → length (truth value) ≡ 1
one_digit true = omega arith
one_digit false = omega arith

-- the text of an object identifier
pub object_short : (object : Identifier) → IsIdentifier object → length (object_text object) ≤ 21
object_short object is =
    let kind = ten_digits object.kind (omega (arith, is.0)) in
    let instance = ten_digits object.instance (omega (arith, is.1)) in
    omega (arith, kind, instance, length-append (number object.kind) (field ":" (number object.instance)))

-- ---- parts one after another

-- the octets of three texts
pub three_parts : (a b c : List ℕ) → length (a ++ b ++ c) ≡ length a + length b + length c
three_parts a b c = omega (arith, length-append (a ++ b) c, length-append a b)

-- of four
pub four_parts : (a b c d : List ℕ) → length (a ++ b ++ c ++ d) ≡ length a + length b + length c + length d
four_parts a b c d = omega (arith, length-append (a ++ b ++ c) d, three_parts a b c)

-- of five
pub five_parts : (a b c d e : List ℕ) → length (a ++ b ++ c ++ d ++ e) ≡ length a + length b + length c + length d + length e
five_parts a b c d e = omega (arith, length-append (a ++ b ++ c ++ d) e, four_parts a b c d)

-- of six
pub six_parts : (a b c d e f : List ℕ) → length (a ++ b ++ c ++ d ++ e ++ f) ≡ length a + length b + length c + length d + length e + length f
six_parts a b c d e f = omega (arith, length-append (a ++ b ++ c ++ d ++ e) f, five_parts a b c d e)

-- the octets of two parts that are spelled
pub joined_length : {P Q : List ℕ → Type 0} {b : List ℕ} (h : Joins P Q b) → length b ≡ length h.front + length h.back
joined_length h = omega (arith, ap length h.octets, length-append h.front h.back)

-- ---- primitive values

-- the word of a Boolean
boolean_short : (bit : Bool) → length (if bit then codes "true" else codes "false") ≤ 5
boolean_short true = omega arith
boolean_short false = omega arith

-- a character string, plain or not
string_by : (plain : Bool) (text : TextValue) → text.set < 256
    → length (if plain then field "s:\"" text.octets ++ codes "\"" else field "s" (number text.set) ++ field ":" (hexadecimal text.octets)) ≤ 2 * length text.octets + 5
string_by true text small = omega (arith, length-append text.octets (codes "\""))
string_by false text small =
    let set = three_digits text.set small in
    omega (arith, set, hex_length text.octets, length-append (number text.set) (field ":" (hexadecimal text.octets)))

-- eight bits for each octet but the first
bits_short : (bits : List Bool) (octets : List ℕ) → BitsContents bits octets → length bits + 8 ≤ 8 * length octets
bits_short bits [] h = absurd h
bits_short bits (unused ∷ packed) h = omega (arith, h.sized)

-- fifteen octets of text for each octet of the contents and for one of their head, with room for a blank
primitive_paid : (prim : PrimitiveValue) (octets : List ℕ) → PrimContents prim octets → length (primitive_text prim) + 1 ≤ 15 * length octets + 15
primitive_paid (Null value) octets h = omega arith
primitive_paid (Boolean value) octets h = omega (arith, boolean_short value.0)
primitive_paid (Unsigned value) octets h = omega (arith, h.sized.0, twenty_digits value.0 (prim_only_values (Unsigned value) octets h))
primitive_paid (Signed value) octets h = omega (arith, h.sized.0, signed_digits value.0 (prim_only_values (Signed value) octets h))
primitive_paid (RealBits value) octets h = omega arith
primitive_paid (DoubleBits value) octets h = let all = any_octets_lengths double_any_octets value octets h in omega (arith, all.0)
primitive_paid (Octets value) octets h = omega (arith, ap length h.is, hex_length value)
primitive_paid (Text text) octets h = omega (arith, ap length h.is, string_by (is_plain text) text h.value_holds.0.0)
primitive_paid (Bits bits) octets h = omega (arith, length-map bits bit_digit, bits_short bits octets h)
primitive_paid (Enumerated value) octets h = omega (arith, h.sized.0, ten_digits value.0 (prim_only_values (Enumerated value) octets h))
primitive_paid (Date value) octets h = omega (arith, hex_length value.0, h.value_holds.1)
primitive_paid (Time value) octets h = omega (arith, hex_length value.0, h.value_holds.1)
primitive_paid (ObjectId object) octets h =
    let all = any_octets_lengths identifier_any_octets object octets h in
    omega (arith, all.0, object_short object h.value_holds)

-- ---- open values

-- a primitive with its head, with room for a blank
spelled_paid : (prim : PrimitiveValue) (b : List ℕ) → SpellsPrimitive prim b → length (primitive_text prim) + 1 ≤ 15 * length b
spelled_paid prim b (inl h) =
    let text = ap (λ (p : PrimitiveValue). length (primitive_text p)) h.is in
    omega (arith, text, boolean_short h.value.0, spelled_some (AppBool h.value.0) b h.headed)
spelled_paid prim b (inr h) =
    let some = spelled_some _ h.head h.headed in
    omega (arith, some, primitive_paid prim h.contents h.spelled, ap length h.octets, length-append h.head h.contents)

-- a group, with room for a blank
tagged_paid : (tag : ℕ) (inner text b : List ℕ) → tag ≤ 254 → length text ≤ 15 * length inner → length inner + 2 ≤ length b → length (field "[" (number tag) ++ field "]{" text ++ codes "}") + 1 ≤ 15 * length b
tagged_paid tag inner text b valid short within =
    let digits = three_digits tag (omega (arith, valid)) in
    omega (arith, digits, short, within, three_parts (field "[" (number tag)) (field "]{" text) (codes "}"))

mutual
  -- an element, with room for a blank
  element_paid : (e : Element) (b : List ℕ) → Spells e b → length (element_text e) + 1 ≤ 15 * length b
  element_paid (primitive prim) b h = spelled_paid prim b h
  element_paid (context tag octets) b h =
      let some = spelled_some _ h.head h.headed in
      let digits = three_digits tag (omega (arith, h.headed.valid)) in
      omega (arith, some, digits, ap length h.joined, length-append h.head octets, hex_length octets, length-append (number tag) (field "]" (hexadecimal octets)))
  element_paid (group tag inner) b h =
      let some = spelled_some (Open tag) h.front h.first in
      let last = spelled_some (Close tag) h.second.back h.second.second in
      let valid : tag ≤ 254 = h.first.valid in
      tagged_paid tag h.second.front (elements_text inner) b valid (elements_paid inner h.second.front h.second.first) (omega (arith, some, last, joined_length h, joined_length h.second))

  -- elements
  elements_paid : (v : Elements) (b : List ℕ) → SpellsAll v b → length (elements_text v) ≤ 15 * length b
  elements_paid none b h = omega arith
  elements_paid (more e rest) b h =
      omega (arith, joined_length h, element_paid e h.front h.first, further_paid rest h.back h.second, length-append (element_text e) (further_text rest))

  -- elements that follow another one
  further_paid : (v : Elements) (b : List ℕ) → SpellsAll v b → length (further_text v) ≤ 15 * length b
  further_paid none b h = omega arith
  further_paid (more e rest) b h =
      omega (arith, joined_length h, element_paid e h.front h.first, further_paid rest h.back h.second, length-append (element_text e) (further_text rest))

-- an open value, with room for twenty-eight octets
pub open_paid : (limit tag : ℕ) (value : Elements) (b : List ℕ) → SpellsOpen limit tag value b → length (open_text value) + 28 ≤ 15 * length b
open_paid limit tag value b h =
    let some = spelled_some (Open tag) h.enclosed.front h.enclosed.first in
    let last = spelled_some (Close tag) h.enclosed.second.back h.enclosed.second.second in
    let inner = elements_paid value h.enclosed.second.front h.enclosed.second.first in
    omega (arith, some, last, inner, joined_length h.enclosed, joined_length h.enclosed.second, length-append (elements_text value) (codes "}"))
