-- What a head says of a production, its length aside; and the lists that begin with such heads.
-- Readers of productions go by these.
use Rattle.std.specs.Prelude.{◌≡◌, ℕ, List, [], ◌∷◌, ◌++◌, Bool, true, false, ◌||◌, ◌&&◌, ◌==◌, not, IsTrue}
use Rattle.bac_tag.specs.declared.heads.TagHead.{TagHead}
use Rattle.bac_tag.specs.declared.heads.TagHead.TheVariants.{App, AppBool, Ctx, Open, Close}
use Rattle.bac_tag.specs.Heads.{Heads}

-- A lead is the class and the number of a head, or the number of an opening or a closing tag. The length is left out.
pub data Lead : Type 0 where
  application context opening closing : ℕ → Lead

-- The lead of a head. An application Boolean has number 1.
abbrev pub lead_of : TagHead → Lead
lead_of (App number len) = application number
lead_of (AppBool bit) = application 1
lead_of (Ctx number len) = context number
lead_of (Open number) = opening number
lead_of (Close number) = closing number

-- Which of the four kinds a lead is, as a number.
abbrev pub kind_of : Lead → ℕ
kind_of (application number) = 0
kind_of (context number) = 1
kind_of (opening number) = 2
kind_of (closing number) = 3

-- The number in a lead.
abbrev pub number_of : Lead → ℕ
number_of (application number) = number
number_of (context number) = number
number_of (opening number) = number
number_of (closing number) = number

-- Whether two leads are the same: of the same kind and with the same number.
abbrev pub same_lead : Lead → Lead → Bool
same_lead s t = (kind_of s == kind_of t) && (number_of s == number_of t)

-- Whether a lead is among the leads of a list.
abbrev pub has : List Lead → Lead → Bool
has [] t = false
has (s ∷ leads) t = same_lead s t || has leads t

-- Whether no lead is in both lists.
abbrev pub disjoint : List Lead → List Lead → Bool
disjoint [] others = true
disjoint (t ∷ leads) others = not (has others t) && disjoint leads others

-- The leads of the first list, and those of the second too if the test holds.
abbrev pub and_where : Bool → List Lead → List Lead → List Lead
and_where true leads others = leads ++ others
and_where false leads others = leads

-- The list of octets begins with a head whose lead is among these.
pub record BeginsIn (leads : List Lead) (b : List ℕ) : Type 0 where
  pub head : TagHead
  pub front : List ℕ
  pub back : List ℕ
  pub spelled : Heads head front
  pub octets : b ≡ front ++ back
  pub among : IsTrue (has leads (lead_of head))
