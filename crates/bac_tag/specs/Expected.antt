-- Expected heads. A reader that knows what may come expects some heads and no others: a class, a number or any number, lengths
-- from a least to a most one, an opening or a closing.
use Rattle.std.specs.Prelude.{◌≡◌, ◌≢◌, ℕ, ◌^◌, ◌<◌, ◌≤◌, Option, None, Some, IfSome, List, [], ◌∷◌, ◌⊎◌}
use Rattle.bac_tag.specs.declared.heads.TagHead.{TagHead}
use Rattle.bac_tag.specs.declared.heads.TagHead.TheVariants.{App, AppBool, Ctx, Open, Close}
use Rattle.bac_tag.specs.declared.expecting.Expected.{Expected}
use Rattle.bac_tag.specs.declared.expecting.Expected.TheVariants as expected
use Rattle.bac_tag.specs.Heads.{Heads}

-- The number is the one that is named, or none is named.
abbrev pub HasNumber : Option ℕ → ℕ → Type 0
HasNumber None number = Unit {0}
HasNumber (Some named) number = number ≡ named

-- The head is among those expected.
abbrev pub Fits : Expected → TagHead → Type 0
Fits expected.AnyHead head = Unit {0}
Fits (expected.App named least most) (App number len) = (number ≡ named) × (least ≤ len) × (len ≤ most)
Fits expected.AppBool (AppBool value) = Unit {0}
Fits (expected.Ctx named least most) (Ctx number len) = HasNumber named number × (least ≤ len) × (len ≤ most)
Fits (expected.Open named) (Open number) = HasNumber named number
Fits (expected.Close named) (Close number) = HasNumber named number
Fits _ _ = ⊥

-- Some valid head is among those expected: the number is one that the class uses, and the lengths are a range below 2 ^ 32.
-- Readers require it.
abbrev pub IsSound : Expected → Type 0
IsSound expected.AnyHead = Unit {0}
IsSound (expected.App named least most) = (named ≤ 12) × (named ≢ 1) × (least ≤ most) × (most < 2 ^ 32)
IsSound expected.AppBool = Unit {0}
IsSound (expected.Ctx named least most) = IfSome named (λ number. number ≤ 254) × (least ≤ most) × (most < 2 ^ 32)
IsSound (expected.Open named) = IfSome named (λ number. number ≤ 254)
IsSound (expected.Close named) = IfSome named (λ number. number ≤ 254)

-- The list spells the head, which is among those expected.
pub record ExpectedHeads (expected : Expected) (head : TagHead) (b : List ℕ) : Type 0 where
  pub fits : Fits expected head
  pub spelled : Heads head b

-- The head fits one of several expectations. No public contract uses this by itself.
abbrev pub FitsOne : List Expected → TagHead → Type 0
FitsOne [] head = ⊥
FitsOne (expected ∷ others) head = Fits expected head ⊎ FitsOne others head

-- The list spells the head, which fits one of several expectations.
pub record HeadsOfOne (several : List Expected) (head : TagHead) (b : List ℕ) : Type 0 where
  pub fits : FitsOne several head
  pub spelled : Heads head b
