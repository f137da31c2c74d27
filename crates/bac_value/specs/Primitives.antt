-- Contents of primitive values. Contents are the octets after a tag head, all of them. Each type has a relation contents value
-- octets and a function written from values to lists; both are members of the trait Primitive.
use Rattle.std.specs.Prelude.{◌≡◌, ℕ, ◌<◌, ◌≤◌, ◌+◌, ◌++◌, List, [], length, take}
use Rattle.bac_tag.specs.declared.refusals.Why.{Why}
use Rattle.bac_tag.specs.declared.refusals.Why.TheVariants.{Length, Content, OutOfMemory}

-- The value is one of its type, and the octets are the one list that the type has for it. The contents of every type are
-- defined so, except those of Unsigned, Signed, Enumerated and Bits.
pub record IsTheList {V : Type 0} (IsValue : V → Type 0) (list : V → List ℕ) (value : V) (octets : List ℕ) : Type 0 where
  pub value_holds : IsValue value
  pub is : octets ≡ list value

-- The octets are contents of the value, and are that many.
pub record OfSize {V : Type 0} (contents : V → List ℕ → Type 0) (size : ℕ) (value : V) (octets : List ℕ) : Type 0 where
  pub spelled : contents value octets
  pub sized : length octets ≡ size

-- With some octets after it, or none, the front is contents of that size.
pub record IsBegun {V : Type 0} (contents : V → List ℕ → Type 0) (front : List ℕ) (size : ℕ) : Type 0 where
  pub value : V
  pub rest : List ℕ
  pub spelled : contents value (front ++ rest)
  pub sized : length (front ++ rest) ≡ size

-- Contents have at least shortest and at most longest octets, and there are contents of each number of octets from the one to
-- the other.
pub record AreLengths {V : Type 0} (contents : V → List ℕ → Type 0) (shortest longest : ℕ) : Type 0 where
  pub least : (value : V) (octets : List ℕ) → contents value octets → shortest ≤ length octets
  pub most : (value : V) (octets : List ℕ) → contents value octets → length octets ≤ longest
  pub each : (size : ℕ) → shortest ≤ size → size ≤ longest → IsBegun contents [] size

-- The octets are contents of some value, and are those that are written of it.
pub record IsWritten {V : Type 0} (contents : V → List ℕ → Type 0) (written : V → List ℕ) (octets : List ℕ) : Type 0 where
  pub value : V
  pub spelled : contents value octets
  pub is : octets ≡ written value

-- The octets before the place begin contents of that size, and with the one at the place they begin none.
abbrev pub IsHopelessAt : {V : Type 0} → (V → List ℕ → Type 0) → List ℕ → ℕ → ℕ → Type 0
IsHopelessAt contents octets size place =
    (place < length octets) × IsBegun contents (take place octets) size × (IsBegun contents (take (place + 1) octets) size → ⊥)

-- The reason is one of those for which contents are refused: Length, Content and OutOfMemory.
abbrev pub IsContentsReason : Why → Type 0
IsContentsReason Length = Unit {0}
IsContentsReason Content = Unit {0}
IsContentsReason OutOfMemory = Unit {0}
IsContentsReason _ = ⊥
