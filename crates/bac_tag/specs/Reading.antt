-- Expected heads as they are read. A reader takes a head in two parts: what is before its length, and the rest.
use Rattle.std.specs.Prelude.{◌≡◌, ◌≢◌, ℕ, ◌<◌, ◌≤◌, ◌-◌, ◌^◌, ◌⊎◌, Bool, true, false, Option, None, Some, List}
use Rattle.bac_tag.specs.declared.heads.TagHead.{TagHead}
use Rattle.bac_tag.specs.declared.reading.Front.{Front}
use Rattle.bac_tag.specs.declared.expecting.Expected.{Expected}
use Rattle.bac_tag.specs.declared.expecting.Expected.TheVariants as expected
use Rattle.bac_tag.specs.Heads.{IsValid, class_bit, class_of, number_of, Opening, LengthIn, Ending}
use Rattle.bac_tag.specs.Expected.{HasNumber, Fits}

-- Some length in the range has this LVT.
abbrev pub HasLvt : ℕ → ℕ → ℕ → Type 0
HasLvt least most lvt = (lvt ≤ 5) × (lvt ≢ 5 → (least ≤ lvt) × (lvt ≤ most))

-- The first octet of a length says that the length is in so many octets after it: FE before two, FF before four.
abbrev pub IsWide : ℕ → ℕ → Type 0
IsWide first width = ((first ≡ 254) × (width ≡ 2)) ⊎ ((first ≡ 255) × (width ≡ 4))

-- Some valid head has this class, number and LVT.
abbrev pub IsUsed : Bool → ℕ → ℕ → Type 0
IsUsed false number lvt = (number ≤ 12) × (lvt < 6) × (number ≡ 1 → lvt < 2)
IsUsed true number lvt = (number ≤ 254) × (lvt < 8)

-- Some expected head has this class, number and LVT.
abbrev pub Uses : Expected → Bool → ℕ → ℕ → Type 0
Uses expected.AnyHead context number lvt = IsUsed context number lvt
Uses (expected.App named least most) context number lvt = (context ≡ false) × (number ≡ named) × HasLvt least most lvt
Uses expected.AppBool context number lvt = (context ≡ false) × (number ≡ 1) × (lvt < 2)
Uses (expected.Ctx named least most) context number lvt = (context ≡ true) × HasNumber named number × (number ≤ 254) × HasLvt least most lvt
Uses (expected.Open named) context number lvt = (context ≡ true) × HasNumber named number × (number ≤ 254) × (lvt ≡ 6)
Uses (expected.Close named) context number lvt = (context ≡ true) × HasNumber named number × (number ≤ 254) × (lvt ≡ 7)

-- The number that is named, or 0 if none is named.
abbrev pub number_or_zero : Option ℕ → ℕ
number_or_zero None = 0
number_or_zero (Some number) = number

-- A number that some expected head has, with whatever class and LVT any expected head has.
abbrev pub example_of : Expected → ℕ
example_of expected.AnyHead = 0
example_of (expected.App named least most) = named
example_of expected.AppBool = 1
example_of (expected.Ctx named least most) = number_or_zero named
example_of (expected.Open named) = number_or_zero named
example_of (expected.Close named) = number_or_zero named

-- The least length that is expected.
abbrev pub least_of : Expected → ℕ
least_of (expected.App named least most) = least
least_of (expected.Ctx named least most) = least
least_of _ = 0

-- The largest length that is expected.
abbrev pub most_of : Expected → ℕ
most_of (expected.App named least most) = most
most_of (expected.Ctx named least most) = most
most_of _ = 2 ^ 32 - 1

-- The LVT and the list are those of a length in a range.
pub record LengthWithin (least most lvt len : ℕ) (b : List ℕ) : Type 0 where
  pub low : least ≤ len
  pub high : len ≤ most
  pub length_is : LengthIn len lvt b

-- The list is an opening that some expected head has.
pub record IsFront (expected : Expected) (front : Front) (b : List ℕ) : Type 0 where
  pub used : Uses expected front.context front.number front.lvt
  pub opening : Opening (class_bit front.context) front.number front.lvt b

-- The list is the ending of an expected head with that opening.
pub record IsBack (expected : Expected) (front : Front) (head : TagHead) (b : List ℕ) : Type 0 where
  pub fits : Fits expected head
  pub valid : IsValid head
  pub class : class_bit front.context ≡ class_of head
  pub number : front.number ≡ number_of head
  pub ending : Ending head front.lvt b
