-- Fields of a production: contents under a head (clause 21).
use Rattle.std.specs.Prelude.{◌≡◌, ◌≢◌, ℕ, ◌≤◌, Option, None, Some, List, ◌++◌, length}
use Rattle.bac_tag.specs.declared.heads.TagHead.{TagHead}
use Rattle.bac_tag.specs.declared.heads.TagHead.TheVariants.{App, Ctx}
use Rattle.bac_tag.specs.declared.expecting.Expected.{Expected}
use Rattle.bac_tag.specs.declared.expecting.Expected.TheVariants as expected
use Rattle.bac_tag.specs.Heads.{Heads}

-- The head of a field, by the length of its contents. It is of context class with the number that is given, or else of
-- application class with the number of the type.
abbrev pub heading : Option ℕ → ℕ → ℕ → TagHead
heading (Some number) application len = Ctx number len
heading None application len = App application len

-- The heads of a field with a length from least to most, as an expected head.
abbrev pub expected_heading : Option ℕ → ℕ → ℕ → ℕ → Expected
expected_heading (Some number) application least most = expected.Ctx (Some number) least most
expected_heading None application least most = expected.App application least most

-- The number is one that the head of a field can have. A context number is at most 254. An application number is at most
-- 12, and not 1.
abbrev pub IsHeading : Option ℕ → ℕ → Type 0
IsHeading (Some number) application = number ≤ 254
IsHeading None application = (application ≤ 12) × (application ≢ 1)

-- The number in the head of a field.
abbrev pub number_in : Option ℕ → ℕ → ℕ
number_in (Some number) application = number
number_in None application = application

-- The lists that spell a field: a head with the length of the contents, and contents of the value. The head may be in any
-- of its spellings, and the contents may be any of those of the value.
pub record IsField {V : Type 0} (head_for : ℕ → TagHead) (contents : V → List ℕ → Type 0) (value : V) (b : List ℕ) : Type 0 where
  pub head : List ℕ
  pub body : List ℕ
  pub headed : Heads (head_for (length body)) head
  pub spelled : contents value body
  pub octets : b ≡ head ++ body

-- A head that was found: how many octets it has, and the length in it.
pub record Found : Type 0 where
  pub taken : ℕ
  pub len : ℕ
