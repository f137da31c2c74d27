-- Numbers as contents, the most significant octet first (clauses 20.2.4 and 20.2.11).
use Rattle.std.specs.Prelude.{◌≡◌, ℕ, zero, suc, ◌≤◌, List, [], ◌∷◌, length}
use Rattle.std.specs.Int.Digits.{digits_of}
use Rattle.bac_tag.specs.declared.refusals.Why.{Why}
use Rattle.bac_tag.specs.declared.refusals.Why.TheVariants.{Length, Content}
use Rattle.bac_tag.specs.Octets.{IsOctets}
use Rattle.bac_tag.specs.Number.{number}

-- A number may be spelled by that many octets: 1 to 8.
abbrev pub HasNumberLength : ℕ → Type 0
HasNumberLength size = (1 ≤ size) × (size ≤ 8)

-- The list is 1 to 8 octets whose number is n, and n is from low to high. Unsigned has 0 and 2 ^ 64 - 1, Enumerated 0 and
-- 2 ^ 32 - 1, a Priority 1 and 16, an Instance 0 and 4,194,303. Other numbers with a range have theirs. A Priority and an
-- Instance are seen as their number.
pub record NumberContents (low high n : ℕ) (octets : List ℕ) : Type 0 where
  pub are_octets : IsOctets octets
  pub sized : HasNumberLength (length octets)
  pub is : number octets ≡ n
  pub least : low ≤ n
  pub most : n ≤ high

-- The fewest octets that spell a number, at least one.
unfoldable pub least_number : ℕ → List ℕ
least_number zero = 0 ∷ []
least_number (suc n) = digits_of 256 (suc n)

-- The reason is one of those for which the octets of a number are refused: Length and Content.
abbrev pub IsNumberReason : Why → Type 0
IsNumberReason Length = Unit {0}
IsNumberReason Content = Unit {0}
IsNumberReason _ = ⊥
