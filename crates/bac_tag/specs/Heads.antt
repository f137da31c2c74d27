-- Tag heads and the lists that spell them (clause 20.2.1).
use Rattle.std.specs.Prelude.{◌≡◌, ◌≢◌, ℕ, ◌+◌, ◌*◌, ◌^◌, ◌<◌, ◌≤◌, Bool, true, false, List, [], ◌∷◌, ◌++◌}
use Rattle.std.specs.Int.{w16, w32, to_be_bytes}
use Rattle.bac_tag.specs.declared.heads.TagHead.{TagHead}
use Rattle.bac_tag.specs.declared.heads.TagHead.TheVariants.{App, AppBool, Ctx, Open, Close}

-- The number of the head is one that its class uses. Application numbers are 0 to 12 and not 1, since a Boolean is a head of
-- its own. Context, opening and closing numbers are 0 to 254.
abbrev pub IsValid : TagHead → Type 0
IsValid (App number len) = (number ≤ 12) × (number ≢ 1)
IsValid (AppBool value) = Unit {0}
IsValid (Ctx number len) = number ≤ 254
IsValid (Open number) = number ≤ 254
IsValid (Close number) = number ≤ 254

-- The bit of a class: 0 for application class, 1 for context class.
abbrev pub class_bit : Bool → ℕ
class_bit false = 0
class_bit true = 1

-- The class of a head, as its bit.
abbrev pub class_of : TagHead → ℕ
class_of (App number len) = 0
class_of (AppBool value) = 0
class_of (Ctx number len) = 1
class_of (Open number) = 1
class_of (Close number) = 1

-- The number of a head. An application Boolean has number 1.
abbrev pub number_of : TagHead → ℕ
number_of (App number len) = number
number_of (AppBool value) = 1
number_of (Ctx number len) = number
number_of (Open number) = number
number_of (Close number) = number

-- The two forms of a number: it is in the nibble (0 to 14), or under the nibble F in an octet of its own (0 to 254).
pub data NumberForm : Type 0 where
  in_nibble in_octet : NumberForm

-- The count of numbers, from 0 on, that have the form.
abbrev pub numbers : NumberForm → ℕ
numbers in_nibble = 15
numbers in_octet = 255

-- The nibble of a number in the form: the number itself, or F.
abbrev pub nibble_of : NumberForm → ℕ → ℕ
nibble_of in_nibble number = number
nibble_of in_octet number = 15

-- The number octet of a number in the form, or none.
abbrev pub number_octets : NumberForm → ℕ → List ℕ
number_octets in_nibble number = []
number_octets in_octet number = number ∷ []

-- The four forms of a length: it is the LVT (0 to 4), or is under LVT 5 in one octet (to 253), in two after FE (to 65,535) or
-- in four after FF (below 2 ^ 32).
pub data LengthForm : Type 0 where
  in_lvt one_octet two_octets four_octets : LengthForm

-- The count of lengths, from 0 on, that have the form.
abbrev pub lengths : LengthForm → ℕ
lengths in_lvt = 5
lengths one_octet = 254
lengths two_octets = 2 ^ 16
lengths four_octets = 2 ^ 32

-- The LVT of a length in the form: the length itself, or 5.
abbrev pub lvt_of : LengthForm → ℕ → ℕ
lvt_of in_lvt len = len
lvt_of one_octet len = 5
lvt_of two_octets len = 5
lvt_of four_octets len = 5

-- The octets of a length in the form, or none if the length is the LVT.
abbrev pub length_octets : LengthForm → ℕ → List ℕ
length_octets in_lvt len = []
length_octets one_octet len = len ∷ []
length_octets two_octets len = 254 ∷ to_be_bytes w16 len
length_octets four_octets len = 255 ∷ to_be_bytes w32 len

-- The list is an opening: the initial octet with class, number and LVT, and the number octet or none. The number is in one of
-- the two forms.
pub record Opening (class number lvt : ℕ) (b : List ℕ) : Type 0 where
  pub form : NumberForm
  pub fits : number < numbers form
  pub octets : b ≡ (16 * nibble_of form number + 8 * class + lvt) ∷ number_octets form number

-- The LVT and the list are those of the length, in one of the four forms that is wide enough.
pub record LengthIn (len lvt : ℕ) (b : List ℕ) : Type 0 where
  pub form : LengthForm
  pub fits : len < lengths form
  pub lvt_is : lvt ≡ lvt_of form len
  pub octets : b ≡ length_octets form len

-- The LVT is that of the head, and the list is the octets after its opening. An application Boolean has LVT 0 (false) or 1
-- (true), an opening tag 6, a closing tag 7, and no octet follows any of them.
abbrev pub Ending : TagHead → ℕ → List ℕ → Type 0
Ending (App number len) lvt b = LengthIn len lvt b
Ending (AppBool false) lvt b = (lvt ≡ 0) × (b ≡ [])
Ending (AppBool true) lvt b = (lvt ≡ 1) × (b ≡ [])
Ending (Ctx number len) lvt b = LengthIn len lvt b
Ending (Open number) lvt b = (lvt ≡ 6) × (b ≡ [])
Ending (Close number) lvt b = (lvt ≡ 7) × (b ≡ [])

-- The list spells the head, which is valid: it is an opening, and after it the ending.
pub record Heads (head : TagHead) (b : List ℕ) : Type 0 where
  pub valid : IsValid head
  pub lvt : ℕ
  pub front : List ℕ
  pub back : List ℕ
  pub opening : Opening (class_of head) (number_of head) lvt front
  pub ending : Ending head lvt back
  pub octets : b ≡ front ++ back

-- The length of the head is below 2 ^ 32, as it is in the program.
abbrev pub LengthFits : TagHead → Type 0
LengthFits (App number len) = len < 2 ^ 32
LengthFits (AppBool value) = Unit {0}
LengthFits (Ctx number len) = len < 2 ^ 32
LengthFits (Open number) = Unit {0}
LengthFits (Close number) = Unit {0}
