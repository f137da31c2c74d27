-- The parts of a production (clause 21), and what a reader reports of them.
use Rattle.std.specs.Prelude.{◌≡◌, ◌↔◌, ℕ, ◌≤◌, List, [], ◌∷◌, ◌++◌, length, take, Bool, true, false, ◌⊎◌, cond, nat_lt, IsTrue, Option, Some, None}
use Rattle.std.proofs.Common.{inl, inr}
use Rattle.bac_tag.specs.declared.expecting.Expected.{Expected}
use Rattle.bac_tag.specs.declared.expecting.Expected.TheVariants as expected
use Rattle.bac_tag.specs.declared.heads.TagHead.{TagHead}
use Rattle.bac_tag.specs.declared.heads.TagHead.TheVariants.{Open, Close}
use Rattle.bac_tag.specs.Heads.{Heads}
use Rattle.bac_tag.specs.declared.refusals.Refusal.{Refusal}
use Rattle.bac_tag.specs.declared.refusals.Why.TheVariants.{Short}
use Rattle.bac_tag.specs.Spelling.{HasMark, IsLeast, IsFurthest, Joins}
use Rattle.bac_data.specs.Spells.{Encloses}
use Rattle.bac_productions.specs.declared.choice.Choice.{Choice}
use Rattle.bac_productions.specs.declared.choice.Choice.TheVariants.{First, Second}
use Rattle.bac_productions.specs.Leads.{Lead, BeginsIn}

-- ---- what spells a part

-- The lists that spell one head, which has no value.
abbrev pub Head : TagHead → Unit {0} → List ℕ → Type 0
Head head u b = Heads head b

-- The head at an edge of a group: the opening tag if it opens, and otherwise the closing one.
abbrev pub edge : Bool → ℕ → TagHead
edge true number = Open number
edge false number = Close number

-- The opening or the closing tag of a group, as an expected head.
abbrev pub expected_edge : Bool → ℕ → Expected
expected_edge true number = expected.Open (Some number)
expected_edge false number = expected.Close (Some number)

-- The lists that spell an optional part, which may be absent. If it is absent it has no octets.
abbrev pub Optional : {V : Type 0} → (V → List ℕ → Type 0) → Option V → List ℕ → Type 0
Optional S None b = b ≡ []
Optional S (Some v) b = S v b

-- The lists that spell the items of a list, one after the other. No items are spelled by no octets.
abbrev pub Items : {V : Type 0} → (V → List ℕ → Type 0) → List V → List ℕ → Type 0
Items S [] b = b ≡ []
Items S (v ∷ vs) b = Joins (S v) (Items S vs) b

-- The lists that spell a group: the part enclosed in an opening and a closing tag of that number.
abbrev pub Grouped : {V : Type 0} → ℕ → (V → List ℕ → Type 0) → V → List ℕ → Type 0
Grouped number S v = Encloses number (S v)

-- What either case of a choice is seen as.
abbrev pub either_of : {A B V W : Type 0} → (A → V) → (B → W) → Choice A B → V ⊎ W
either_of f g (First a) = inl (f a)
either_of f g (Second b) = inr (g b)

-- A value has parts and can be made again from them. A list that spells the value spells its parts, and a list that spells
-- parts spells the value made from them.
pub record IsRecordOf {V W : Type 0} (parts : W → List ℕ → Type 0) (whole : V → List ℕ → Type 0) : Type 0 where
  pub fields : V → W
  pub of_fields : W → V
  pub same : (v : V) → of_fields (fields v) ≡ v
  pub split : (v : V) (b : List ℕ) → whole v b → parts (fields v) b
  pub joined : (w : W) (b : List ℕ) → parts w b → whole (of_fields w) b

-- ---- what makes reading by the next head right

-- Of two spellings at the front of one list, either both are the same list and spell the same value, or the longer
-- continues where the shorter ends, with a head whose lead is among these.
pub data Aligned {V : Type 0} (leads : List Lead) (v w : V) (b c : List ℕ) : Type 0 where
  same : v ≡ w → b ≡ c → Aligned leads v w b c
  shorter : (more : List ℕ) → c ≡ b ++ more → BeginsIn leads more → Aligned leads v w b c
  longer : (more : List ℕ) → b ≡ c ++ more → BeginsIn leads more → Aligned leads v w b c

-- A spelling begins with one of the openers, or is empty if that is allowed, and any two spellings at the front of one list
-- are Aligned by the continuers. So one continues where another ends only with one of the continuers.
pub record Lawful {V : Type 0} (spells : V → List ℕ → Type 0) (openers continuers : List Lead) (may_be_empty : Bool) : Type 0 where
  pub opens : (v : V) (b : List ℕ) → spells v b → ((b ≡ []) × IsTrue may_be_empty) ⊎ BeginsIn openers b
  pub aligned : (v w : V) (b c x y : List ℕ) → spells v b → spells w c → b ++ x ≡ c ++ y → Aligned continuers v w b c

-- Some value has a spelling.
pub record IsInhabited {V : Type 0} (spells : V → List ℕ → Type 0) : Type 0 where
  pub value : V
  pub octets : List ℕ
  pub spelled : spells value octets

-- Each value that is spelled has a least spelling.
abbrev pub HasLeast : {V : Type 0} → (V → List ℕ → Type 0) → Type 0
HasLeast {V} spells = (v : V) (b : List ℕ) → spells v b → (c : List ℕ) × IsLeast (spells v) c

-- Some value is spelled, no list spells two values, and each value that is spelled has a least spelling.
pub record IsWellSpelled {V : Type 0} (spells : V → List ℕ → Type 0) : Type 0 where
  pub inhabited : IsInhabited spells
  pub once : (v w : V) (b : List ℕ) → spells v b → spells w b → v ≡ w
  pub least : HasLeast spells

-- ---- what a reader reports

-- The mark of taken octets, of which the first agreed octets agree with the canonical ones. It is the number agreed, which
-- is the place of the first difference, or None if all of the octets agree.
abbrev pub mark_within : ℕ → ℕ → Option ℕ
mark_within taken agreed = cond (nat_lt agreed taken) (Some agreed) None

-- The first n octets of the input spell the value, and no longer front of the input spells any.
pub record IsLongest {V : Type 0} (spells : V → List ℕ → Type 0) (input : List ℕ) (v : V) (n : ℕ) : Type 0 where
  pub within : n ≤ length input
  pub spelled : spells v (take n input)
  pub most : (w : V) (c y : List ℕ) → input ≡ c ++ y → spells w c → length c ≤ n

-- The first taken octets of the input spell some value, no longer front of the input spells any, and the mark is that of these
-- octets against the canonical ones of the value.
pub record IsChecked {V : Type 0} (spells : V → List ℕ → Type 0) (input : List ℕ) (taken : ℕ) (mark : Option ℕ) : Type 0 where
  pub value : V
  pub longest : IsLongest spells input value taken
  pub marked : HasMark (spells value) (take taken input) mark

-- The octets spell some value, and have the mark against its canonical ones.
pub record IsMarked {V : Type 0} (spells : V → List ℕ → Type 0) (octets : List ℕ) (mark : Option ℕ) : Type 0 where
  pub value : V
  pub spelled : spells value octets
  pub marked : HasMark (spells value) octets mark

-- The place is the furthest one of the input, and the reason is Short exactly where the place is the length of the input.
-- So it says how far the input begins a spelling.
pub record IsReach {V : Type 0} (spells : V → List ℕ → Type 0) (input : List ℕ) (reach : Refusal) : Type 0 where
  pub furthest : IsFurthest spells input reach.place
  pub short : (reach.why ≡ Short) ↔ (reach.place ≡ length input)
