-- Laws on the contents of a Boolean.
use Rattle.std.proofs.Common.{◌≡◌, ℕ, zero, suc, ◌<◌, ◌≤◌, Bool, true, false, List, [], ◌∷◌, ◌++◌, length, get_or, arith, ap, refl}
use Rattle.bac_value.specs.declared.types.boolean_value.Boolean.{Boolean}
use Rattle.bac_value.specs.Primitives.{IsTheList, IsBegun, IsHopelessAt}
use Rattle.bac_value.specs.BooleanContents.{IsBoolean, boolean_octets}

abbrev boolean : Bool → Boolean
boolean bit = record { 0 = bit }

one_bit : (a b : Bool) → boolean_octets (boolean a) ≡ boolean_octets (boolean b) → a ≡ b
one_bit true true e = refl
one_bit false false e = refl
one_bit true false e = absurd (omega (arith, ap (λ (l : List ℕ). get_or l 0 0) e))
one_bit false true e = absurd (omega (arith, ap (λ (l : List ℕ). get_or l 0 0) e))

pub boolean_once : (a b : Boolean) → IsBoolean a → IsBoolean b → boolean_octets a ≡ boolean_octets b → a ≡ b
boolean_once a b p q e = ap boolean (one_bit a.0 b.0 e)

pub boolean_lengths : (value : Boolean) (octets : List ℕ) → IsTheList IsBoolean boolean_octets value octets → (1 ≤ length octets) × (length octets ≤ 1)
boolean_lengths value octets h = (omega (arith, ap length h.is), omega (arith, ap length h.is))

-- no octet is above 1
bit_small : (bit : Bool) → get_or (boolean_octets (boolean bit)) 0 0 ≤ 1
bit_small true = omega arith
bit_small false = omega arith

begun_of : (bit : Bool) (front rest : List ℕ) (size : ℕ) → 1 ≤ size → size ≤ 1 → front ++ rest ≡ boolean_octets (boolean bit) → IsBegun (IsTheList IsBoolean boolean_octets) front size
begun_of bit front rest size least most e = record { value = boolean bit; rest = rest; sized = omega (arith, ap length e); spelled = record { value_holds = tt; is = e } }

-- none or one octet, which is 0 or 1
pub boolean_begun : (front : List ℕ) (size : ℕ) → length front ≤ size → 1 ≤ size → size ≤ 1 → get_or front 0 0 ≤ 1 → IsBegun (IsTheList IsBoolean boolean_octets) front size
boolean_begun [] size sized least most small = begun_of false [] (0 ∷ []) size least most refl
boolean_begun (zero ∷ []) size sized least most small = begun_of false (0 ∷ []) [] size least most refl
boolean_begun (suc zero ∷ []) size sized least most small = begun_of true (1 ∷ []) [] size least most refl
boolean_begun (suc (suc x) ∷ []) size sized least most small = absurd (omega arith)
boolean_begun (x ∷ y ∷ ys) size sized least most small = absurd (omega arith)

pub boolean_each_length : (size : ℕ) → 1 ≤ size → size ≤ 1 → IsBegun (IsTheList IsBoolean boolean_octets) [] size
boolean_each_length size least most = boolean_begun [] size (omega arith) least most (omega arith)

begins_small : (x : ℕ) (size : ℕ) → IsBegun (IsTheList IsBoolean boolean_octets) (x ∷ []) size → x ≤ 1
begins_small x size h = omega (arith, bit_small h.value.0, ap (λ (l : List ℕ). get_or l 0 0) h.spelled.is)

-- an octet above 1
pub boolean_hopeless : (front : List ℕ) (size : ℕ) → 1 ≤ size → size ≤ 1 → 0 < length front → 1 < get_or front 0 0 → IsHopelessAt (IsTheList IsBoolean boolean_octets) front size 0
boolean_hopeless [] size least most some large = absurd (omega arith)
boolean_hopeless (x ∷ xs) size least most some large = (some, boolean_each_length size least most, λ begun. let small : x ≤ 1 = begins_small x size begun in absurd (omega arith))
