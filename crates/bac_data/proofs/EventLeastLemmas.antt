-- The least spelling of an event.
use Rattle.std.proofs.Common.{◌≡◌, ◌≢◌, ℕ, Bool, List, ◌++◌, length, refl, sym, ap, subst, inl, inr, arith, length-append}
use Rattle.bac_tag.specs.declared.heads.TagHead.TheVariants.{App, AppBool, Ctx}
use Rattle.bac_tag.specs.Octets.{NoGreater}
use Rattle.bac_tag.specs.Laws.Octets.{NoGreater-append, NoGreater-refl}
use Rattle.bac_tag.specs.Spelling.{IsLeast}
use Rattle.bac_tag.specs.Heads.{Heads}
use Rattle.bac_tag.proofs.WritingLemmas.{app_grows}
use Rattle.bac_value.specs.declared.types.boolean_value.Boolean.{Boolean as BooleanValue}
use Rattle.bac_value.specs.declared.prim.PrimitiveValue.{PrimitiveValue}
use Rattle.bac_value.specs.declared.prim.PrimitiveValue.TheVariants.{Null, Boolean, Unsigned, Signed, RealBits, DoubleBits, Octets, Text, Bits, Enumerated, Date, Time, ObjectId}
use Rattle.bac_value.specs.OctetStringContents.{IsOctetString}
use Rattle.bac_value.specs.PrimContents.{application_number, PrimContents, prim_written}
use Rattle.bac_value.specs.Laws.Prim.{prim_written_least}
use Rattle.bac_data.specs.Spells.{SpellsContents, SpellsPrimitive, SpellsContext}

-- ---- application primitives

boolean_number : (prim : PrimitiveValue) (value : BooleanValue) → prim ≡ Boolean value → application_number prim ≡ 1
boolean_number prim value e = ap application_number e

-- only Booleans have that number
pub number_of_others : (prim : PrimitiveValue) → ((value : BooleanValue) → prim ≡ Boolean value → ⊥) → application_number prim ≢ 1
number_of_others (Boolean value) other e = other value refl
number_of_others (Null value) other e = omega (arith, e)
number_of_others (Unsigned value) other e = omega (arith, e)
number_of_others (Signed value) other e = omega (arith, e)
number_of_others (RealBits value) other e = omega (arith, e)
number_of_others (DoubleBits value) other e = omega (arith, e)
number_of_others (Octets value) other e = omega (arith, e)
number_of_others (Text value) other e = omega (arith, e)
number_of_others (Bits value) other e = omega (arith, e)
number_of_others (Enumerated value) other e = omega (arith, e)
number_of_others (Date value) other e = omega (arith, e)
number_of_others (Time value) other e = omega (arith, e)
number_of_others (ObjectId value) other e = omega (arith, e)

-- the contents under the narrowest head
pub least_contents : (prim : PrimitiveValue) (contents head : List ℕ) → application_number prim ≢ 1 → PrimContents prim contents → contents ≡ prim_written prim → IsLeast (Heads (App (application_number prim) (length contents))) head
    → IsLeast (SpellsPrimitive prim) (head ++ contents)
least_contents prim contents head other spelled is h = record {
  member = inr (record { head = head; contents = contents; headed = h.member; spelled = spelled; octets = refl });
  least = no_less;
}
  where
    by_length : (c : List ℕ) (f : SpellsContents prim c) → NoGreater contents f.contents → NoGreater (head ++ contents) (f.head ++ f.contents)
    by_length c f (inl shorter) =
        let grows = app_grows (application_number prim) (length contents) (length f.contents) head f.head (omega arith) h f.headed in
        inl (omega (arith, grows, length-append head contents, length-append f.head f.contents))
    by_length c f (inr alike) =
        let front = h.least f.head (subst (λ (n : ℕ). Heads (App (application_number prim) n) f.head) (sym alike.0) f.headed) in
        NoGreater-append head f.head contents f.contents front (inr alike)

    no_less : (c : List ℕ) → SpellsPrimitive prim c → NoGreater (head ++ contents) c
    no_less c (inl p) = absurd (other (boolean_number prim p.value p.is))
    no_less c (inr p) = rw p.octets (by_length c p (rw is (prim_written_least prim p.contents p.spelled)))

-- a Boolean has its head alone
pub least_boolean_of : (value : BooleanValue) (head : List ℕ) → IsLeast (Heads (AppBool value.0)) head → IsLeast (SpellsPrimitive (Boolean value)) head
least_boolean_of value head h = record {
  member = inl (record { value = value; is = refl; headed = h.member });
  least = no_less;
}
  where
    same_value : (a b : BooleanValue) → Boolean a ≡ Boolean b → b.0 ≡ a.0
    same_value a b e = cc

    no_less : (c : List ℕ) → SpellsPrimitive (Boolean value) c → NoGreater head c
    no_less c (inl p) = h.least c (subst (λ (bit : Bool). Heads (AppBool bit) c) (same_value value p.value p.is) p.headed)
    no_less c (inr p) = absurd (p.headed.valid.1 refl)

-- ---- context primitives

pub least_context : (number : ℕ) (octets head : List ℕ) → IsOctetString octets → IsLeast (Heads (Ctx number (length octets))) head → IsLeast (SpellsContext number octets) (head ++ octets)
least_context number octets head within h = record {
  member = record { head = head; headed = h.member; within = within; joined = refl };
  least = λ c p. rw p.joined (NoGreater-append head p.head octets octets (h.least p.head p.headed) (NoGreater-refl octets));
}
