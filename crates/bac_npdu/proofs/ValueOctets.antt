-- What spells a head, a primitive value or an open value is octets.
use Rattle.std.specs.Prelude.{ℕ, ◌+◌, ◌*◌, ◌<◌, ◌≤◌, Bool, true, false, List, [], ◌∷◌, if◌then◌else◌}
use Rattle.std.proofs.Common.{sym, subst, inl, inr, arith}
use Rattle.std.specs.Int.{w16, w32, w64, to_be_bytes}
use Rattle.bac_tag.specs.declared.heads.TagHead.{TagHead}
use Rattle.bac_tag.specs.declared.heads.TagHead.TheVariants.{App, AppBool, Ctx, Open, Close}
use Rattle.bac_tag.specs.Heads.{NumberForm, in_nibble, in_octet, numbers, nibble_of, number_octets, LengthForm, in_lvt, one_octet, two_octets, four_octets, lengths, lvt_of, length_octets, LengthIn, Ending, Heads, class_of, number_of}
use Rattle.bac_tag.specs.Octets.{IsOctets}
use Rattle.bac_tag.specs.Laws.Octets.{octets_append}
use Rattle.bac_tag.specs.Spelling.{Joins}
use Rattle.bac_value.specs.declared.prim.PrimitiveValue.{PrimitiveValue}
use Rattle.bac_value.specs.declared.prim.PrimitiveValue.TheVariants.{Null, Boolean, Unsigned, Signed, RealBits, DoubleBits, Octets, Text, Bits, Enumerated, Date, Time, ObjectId}
use Rattle.bac_value.specs.declared.types.boolean_value.Boolean.{Boolean as BooleanValue}
use Rattle.bac_value.specs.Primitives.{IsTheList}
use Rattle.bac_value.specs.BooleanContents.{IsBoolean, boolean_octets}
use Rattle.bac_value.specs.RealContents.{real_octets}
use Rattle.bac_value.specs.DoubleContents.{double_octets}
use Rattle.bac_value.specs.Identifier.{Identifier, IsIdentifier, identifier_octets}
use Rattle.bac_value.specs.BitsContents.{BitsContents}
use Rattle.bac_value.specs.PrimContents.{PrimContents}
use Rattle.bac_data.specs.OpenValue.{Element, primitive, context, group, Elements, none, more}
use Rattle.bac_data.specs.Spells.{SpellsPrimitive, SpellsContext, Encloses, Spells, SpellsAll, SpellsOpen}

-- ---- numbers of a fixed width

two : (n : ℕ) → IsOctets (to_be_bytes w16 n)
two n = (omega arith, (omega arith, tt))

pub four : (n : ℕ) → IsOctets (to_be_bytes w32 n)
four n = (omega arith, (omega arith, (omega arith, (omega arith, tt))))

eight : (n : ℕ) → IsOctets (to_be_bytes w64 n)
eight n = (omega arith, (omega arith, (omega arith, (omega arith, (omega arith, (omega arith, (omega arith, (omega arith, tt))))))))

-- ---- parts that are joined

pub joined : {A B : List ℕ → Type 0} → ((b : List ℕ) → A b → IsOctets b) → ((b : List ℕ) → B b → IsOctets b) → (b : List ℕ) → Joins A B b → IsOctets b
joined first second b h = subst IsOctets (sym h.octets) (octets_append h.front h.back (first h.front h.first) (second h.back h.second))

-- ---- heads

number_part : (f : NumberForm) (n : ℕ) → n < numbers f → IsOctets (number_octets f n)
number_part in_nibble n lt = tt
number_part in_octet n lt = (omega (arith, lt), tt)

nibble_small : (f : NumberForm) (n : ℕ) → n < numbers f → nibble_of f n ≤ 15
nibble_small in_nibble n lt = omega (arith, lt)
nibble_small in_octet n lt = omega arith

length_part : (f : LengthForm) (n : ℕ) → n < lengths f → IsOctets (length_octets f n)
length_part in_lvt n lt = tt
length_part one_octet n lt = (omega (arith, lt), tt)
length_part two_octets n lt = (omega arith, two n)
length_part four_octets n lt = (omega arith, four n)

length_small : (f : LengthForm) (n : ℕ) → n < lengths f → lvt_of f n ≤ 7
length_small in_lvt n lt = omega (arith, lt)
length_small one_octet n lt = omega arith
length_small two_octets n lt = omega arith
length_small four_octets n lt = omega arith

of_length : (n lvt : ℕ) (b : List ℕ) → LengthIn n lvt b → (lvt ≤ 7) × IsOctets b
of_length n lvt b h =
    let small : lvt_of h.form n ≤ 7 = length_small h.form n h.fits in
    (omega (arith, h.lvt_is, small), subst IsOctets (sym h.octets) (length_part h.form n h.fits))

after_opening : (h : TagHead) (lvt : ℕ) (b : List ℕ) → Ending h lvt b → (lvt ≤ 7) × IsOctets b
after_opening (App n len) lvt b e = of_length len lvt b e
after_opening (AppBool false) lvt b e = (omega (arith, e.0), subst IsOctets (sym e.1) tt)
after_opening (AppBool true) lvt b e = (omega (arith, e.0), subst IsOctets (sym e.1) tt)
after_opening (Ctx n len) lvt b e = of_length len lvt b e
after_opening (Open n) lvt b e = (omega (arith, e.0), subst IsOctets (sym e.1) tt)
after_opening (Close n) lvt b e = (omega (arith, e.0), subst IsOctets (sym e.1) tt)

class_small : (h : TagHead) → class_of h ≤ 1
class_small (App n len) = omega arith
class_small (AppBool b) = omega arith
class_small (Ctx n len) = omega arith
class_small (Open n) = omega arith
class_small (Close n) = omega arith

first_small : (nibble class lvt : ℕ) → nibble ≤ 15 → class ≤ 1 → lvt ≤ 7 → 16 * nibble + 8 * class + lvt < 256
first_small nibble class lvt p q r = omega (arith, p, q, r)

pub heads : (h : TagHead) (b : List ℕ) → Heads h b → IsOctets b
heads h b s =
    let rest = after_opening h s.lvt s.back s.ending in
    let first = first_small (nibble_of s.opening.form (number_of h)) (class_of h) s.lvt (nibble_small s.opening.form (number_of h) s.opening.fits) (class_small h) rest.0 in
    let front : IsOctets s.front = subst IsOctets (sym s.opening.octets) (first, number_part s.opening.form (number_of h) s.opening.fits) in
    subst IsOctets (sym s.octets) (octets_append s.front s.back front rest.1)

-- ---- primitive values

digit_small : (bit : Bool) → (if bit then 1 else 0) < 256
digit_small true = omega arith
digit_small false = omega arith

pub boolean_contents : (v : BooleanValue) (b : List ℕ) → IsTheList IsBoolean boolean_octets v b → IsOctets b
boolean_contents v b h = subst IsOctets (sym h.is) (digit_small v.0, tt)

pub identifier_contents : (v : Identifier) (b : List ℕ) → IsTheList IsIdentifier identifier_octets v b → IsOctets b
unfolding identifier_octets
identifier_contents v b h = subst IsOctets (sym h.is) (four _)

bits_contents : (v : List Bool) (b : List ℕ) → BitsContents v b → IsOctets b
bits_contents v [] h = absurd h
bits_contents v (unused ∷ packed) h = (omega (arith, h.few), h.are_octets)

pub contents : (v : PrimitiveValue) (b : List ℕ) → PrimContents v b → IsOctets b
unfolding real_octets double_octets
contents (Null v) b h = subst IsOctets (sym h.is) tt
contents (Boolean v) b h = boolean_contents v b h
contents (Unsigned v) b h = h.are_octets
contents (Signed v) b h = h.are_octets
contents (RealBits v) b h = subst IsOctets (sym h.is) (four _)
contents (DoubleBits v) b h = subst IsOctets (sym h.is) (eight _)
contents (Octets v) b h = subst IsOctets (sym h.is) h.value_holds.0
contents (Text v) b h = subst IsOctets (sym h.is) h.value_holds.0
contents (Bits v) b h = bits_contents v b h
contents (Enumerated v) b h = h.are_octets
contents (Date v) b h = subst IsOctets (sym h.is) h.value_holds.0
contents (Time v) b h = subst IsOctets (sym h.is) h.value_holds.0
contents (ObjectId v) b h = identifier_contents v b h

-- ---- open values

pub enclosed : {Inner : List ℕ → Type 0} (n : ℕ) → ((b : List ℕ) → Inner b → IsOctets b) → (b : List ℕ) → Encloses n Inner b → IsOctets b
enclosed n inner b h = joined (heads (Open n)) (joined inner (heads (Close n))) b h

of_primitive : (v : PrimitiveValue) (b : List ℕ) → SpellsPrimitive v b → IsOctets b
of_primitive v b (inl h) = heads (AppBool _) b h.headed
of_primitive v b (inr h) = subst IsOctets (sym h.octets) (octets_append h.head h.contents (heads _ h.head h.headed) (contents v h.contents h.spelled))

of_context : (n : ℕ) (octets b : List ℕ) → SpellsContext n octets b → IsOctets b
of_context n octets b h = subst IsOctets (sym h.joined) (octets_append h.head octets (heads _ h.head h.headed) h.within.0)

mutual
  of_element : (e : Element) (b : List ℕ) → Spells e b → IsOctets b
  of_element (primitive v) b h = of_primitive v b h
  of_element (context n octets) b h = of_context n octets b h
  of_element (group n inner) b h = enclosed n (of_elements inner) b h

  of_elements : (es : Elements) (b : List ℕ) → SpellsAll es b → IsOctets b
  of_elements none b h = subst IsOctets (sym h) tt
  of_elements (more e rest) b h = joined (of_element e) (of_elements rest) b h

pub open_value : (groups n : ℕ) (v : Elements) (b : List ℕ) → SpellsOpen groups n v b → IsOctets b
open_value groups n v b h = enclosed n (of_elements v) b h.enclosed
