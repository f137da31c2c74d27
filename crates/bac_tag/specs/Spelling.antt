-- Words over any relation Spells x b, that the list b spells the value x.
-- A spelling of a value is a list that means it; most values have several. The words are used for heads, for parts of a frame
-- and for frames. The lists are of octets, or of anything else where no least list is spoken of.
-- The laws of these words hold for any values and any spellings. They are stated over the trait laws::Spelled of bac_tag, which
-- is a set of values with a relation spells, and over laws::Said of bac_fields, for lists of symbols.
-- The definitions say which lists spell a value, by ways to split whole lists. The code walks octet by octet. What is proved is
-- that the two agree. In comments a list is of octets (numbers 0 to 255) unless another kind is named, and exactly where means
-- in these cases and no others.
use Rattle.std.specs.Prelude.{◌≡◌, ℕ, ◌+◌, ◌<◌, ◌≤◌, ◌↔◌, ◌⊎◌, Option, List, ◌++◌, length, take}
use Rattle.std.proofs.Common.{inl, inr}
use Rattle.bac_tag.specs.declared.refusals.Refusal.{Refusal}
use Rattle.bac_tag.specs.declared.refusals.Why.TheVariants.{Short, Trailing}
use Rattle.bac_tag.specs.Octets.{NoGreater, IsMark}

-- The list b is in the set, and no greater than any list in it. Canonical is this word: the canonical spelling of a value is
-- the least one.
pub record IsLeast (Among : List ℕ → Type 0) (b : List ℕ) : Type 0 where
  pub member : Among b
  pub least : (c : List ℕ) → Among c → NoGreater b c

-- The octets have the mark, against the least octets of the set.
pub record HasMark (Among : List ℕ → Type 0) (taken : List ℕ) (mark : Option ℕ) : Type 0 where
  pub least : List ℕ
  pub is_least : IsLeast Among least
  pub is_mark : IsMark taken least mark

-- The new octets are the old ones, and after them the least list of the set.
pub record AppendsLeast (Among : List ℕ → Type 0) (old new : List ℕ) : Type 0 where
  pub more : List ℕ
  pub is_least : IsLeast Among more
  pub new_is : new ≡ old ++ more

module _ {A X : Type 0} where
  -- The list spells some value.
  abbrev pub IsSpelling : (X → List A → Type 0) → List A → Type 0
  IsSpelling Spells b = (x : X) × Spells x b

  -- The list begins some spelling.
  pub record IsViable (Spells : X → List A → Type 0) (b : List A) : Type 0 where
    pub value : X
    pub rest : List A
    pub spelled : Spells value (b ++ rest)

  -- No front of the input is a spelling.
  abbrev pub NoFront : (X → List A → Type 0) → List A → Type 0
  NoFront Spells input = (x : X) (b rest : List A) → input ≡ b ++ rest → Spells x b → ⊥

  -- A spelling shows where it ends: none begins another one, nor spells two values. So a reader needs nothing else to find the
  -- end.
  abbrev pub EndsItself : (X → List A → Type 0) → Type 0
  EndsItself Spells = (x y : X) (b c r s : List A) → Spells x b → Spells y c → b ++ r ≡ c ++ s → (b ≡ c) × (x ≡ y)

  -- The pair found is a value and a count, and that many octets at the front of the input spell the value.
  pub record Takes (Spells : X → List A → Type 0) (input : List A) (found : X × ℕ) : Type 0 where
    pub within : found.1 ≤ length input
    pub spelled : Spells found.0 (take found.1 input)

  -- The octets before the place begin a spelling, and with one more they begin none. If the whole input begins a spelling, the
  -- place is the length of the input.
  pub record IsFurthest (Spells : X → List A → Type 0) (input : List A) (place : ℕ) : Type 0 where
    pub within : place ≤ length input
    pub begins : IsViable Spells (take place input)
    pub ends : place < length input → IsViable Spells (take (place + 1) input) → ⊥

  -- No front of the input is a spelling, and the refusal says where and why. The place is that of the first octet with which no
  -- spelling can be begun, or the length of the input if all of it begins one. The reason is Short exactly where the place is
  -- the length of the input: the input ends before there is a spelling.
  pub record IsRefusal (Spells : X → List A → Type 0) (input : List A) (refusal : Refusal) : Type 0 where
    pub none : NoFront Spells input
    pub furthest : IsFurthest Spells input refusal.place
    pub short : (refusal.why ≡ Short) ↔ (refusal.place ≡ length input)

  -- The input as a whole spells no value, and the refusal says where and why. The place is that of the first octet with which
  -- no spelling can be begun, or the length of the input if all of it begins one. The reason is Short exactly where the place
  -- is the length of the input. It is Trailing exactly where the place is less and the octets before it spell a value.
  pub record IsWholeRefusal (Spells : X → List A → Type 0) (input : List A) (refusal : Refusal) : Type 0 where
    pub none : (x : X) → Spells x input → ⊥
    pub furthest : IsFurthest Spells input refusal.place
    pub short : (refusal.why ≡ Short) ↔ (refusal.place ≡ length input)
    pub trailing : (refusal.why ≡ Trailing) ↔ ((refusal.place < length input) × IsSpelling Spells (take refusal.place input))

-- The list is one of the first kind, and after it one of the second.
pub record Joins {A : Type 0} (First Second : List A → Type 0) (b : List A) : Type 0 where
  pub front : List A
  pub back : List A
  pub first : First front
  pub second : Second back
  pub octets : b ≡ front ++ back

-- The list is a spelling of the first value of a pair, and after it one of the second.
abbrev pub Joined : {A X Y : Type 0} → (X → List A → Type 0) → (Y → List A → Type 0) → X × Y → List A → Type 0
Joined First Second pair = Joins (First pair.0) (Second pair.1)

-- The list is a spelling of the first value of a pair, and after it one of the second, whose relation depends on the first
-- value.
abbrev pub JoinedBy : {A X Y : Type 0} → (X → List A → Type 0) → (X → Y → List A → Type 0) → X × Y → List A → Type 0
JoinedBy First Second pair = Joins (First pair.0) (Second pair.0 pair.1)

-- The list is a spelling of the first part, and after it a list that is viable for the second.
pub record IsPartway {A X Y : Type 0} (First : X → List A → Type 0) (Second : X → Y → List A → Type 0) (b : List A) : Type 0 where
  pub value : X
  pub front : List A
  pub back : List A
  pub first : First value front
  pub viable : IsViable (Second value) back
  pub octets : b ≡ front ++ back

-- Whatever the first part is, the second has some spelling.
abbrev pub CanFollow : {A X Y : Type 0} → (X → List A → Type 0) → (X → Y → List A → Type 0) → Type 0
CanFollow {A = A} {X = X} {Y = Y} First Second = (x : X) (b : List A) → First x b → (y : Y) × (d : List A) × Second x y d

-- The list is a spelling of either of two cases.
abbrev pub OneOf : {A X Y : Type 0} → (X → List A → Type 0) → (Y → List A → Type 0) → X ⊎ Y → List A → Type 0
OneOf First Second (inl x) b = First x b
OneOf First Second (inr y) b = Second y b

module _ {X : Type 0} where
  -- That many octets at the front of the input are the canonical ones of some value.
  pub record TakesLeast (Spells : X → List ℕ → Type 0) (input : List ℕ) (taken : ℕ) : Type 0 where
    pub value : X
    pub within : taken ≤ length input
    pub least : IsLeast (Spells value) (take taken input)

  -- The octets as a whole are the canonical ones of some value.
  abbrev pub IsCanonical : (X → List ℕ → Type 0) → List ℕ → Type 0
  IsCanonical Spells octets = (x : X) × IsLeast (Spells x) octets
