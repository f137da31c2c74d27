-- Heads of one octet. A head with a number below 15 and a length below 5 is one octet in its least spelling. So is an opening
-- or a closing with such a number, and the head of an application Boolean.
use Rattle.std.specs.Prelude.{◌≡◌, ◌⊎◌, ℕ, ◌+◌, ◌*◌, ◌/◌, ◌<◌, Bool, true, false, List, length, take, get_or}
use Rattle.bac_tag.specs.declared.heads.TagHead.{TagHead}
use Rattle.bac_tag.specs.declared.heads.TagHead.TheVariants.{App, Ctx}
use Rattle.bac_tag.specs.Spelling.{IsLeast}
use Rattle.bac_tag.specs.Heads.{Heads}

-- The head with this number and length, of context class or else of application class.
abbrev pub headed : Bool → ℕ → ℕ → TagHead
headed true number len = Ctx number len
headed false number len = App number len

-- There is a first octet, and the list of only this octet is the least spelling of the head.
pub record BeginsShort (head : TagHead) (octets : List ℕ) : Type 0 where
  pub some : 0 < length octets
  pub least : IsLeast (Heads head) (take 1 octets)

-- The first octet has this class, this number below 15 and this LVT.
pub record BeginsWith (class number lvt : ℕ) (octets : List ℕ) : Type 0 where
  pub some : 0 < length octets
  pub nibble : number < 15
  pub octet : get_or octets 0 0 ≡ 16 * number + 8 * class + lvt

-- The first octet has this class, and leaves the number or the length to octets after it: it has either this number below 15
-- and LVT 5, or the nibble F.
pub record BeginsLong (class number : ℕ) (octets : List ℕ) : Type 0 where
  pub some : 0 < length octets
  pub opens : ((number < 15) × (get_or octets 0 0 ≡ 16 * number + 8 * class + 5)) ⊎ (get_or octets 0 0 / 8 ≡ 30 + class)
