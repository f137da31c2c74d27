-- How many octets a head has.
use Rattle.std.proofs.Common.{ℕ, ◌≤◌, Bool, true, false, List, length, take, ap, arith, length-append}
use Rattle.std.proofs.lemmas.List.{length-take-le}
use Rattle.bac_tag.specs.Heads.{NumberForm, in_nibble, in_octet, number_octets, LengthForm, in_lvt, one_octet, two_octets, four_octets, length_octets, Heads}
use Rattle.bac_tag.specs.Short.{headed}
use Rattle.bac_tag.specs.Spelling.{Takes}
use Rattle.bac_tag.specs.declared.heads.TagHead.{TagHead}
use Rattle.bac_tag.specs.declared.heads.TagHead.TheVariants.{App, AppBool, Ctx, Open, Close}

number_short : (f : NumberForm) (n : ℕ) → length (number_octets f n) ≤ 1
number_short in_nibble n = omega arith
number_short in_octet n = omega arith

length_short : (f : LengthForm) (n : ℕ) → length (length_octets f n) ≤ 5
length_short in_lvt n = omega arith
length_short one_octet n = omega arith
length_short two_octets n = omega arith
length_short four_octets n = omega arith

-- a head has at most seven octets
head_short : (h : TagHead) (b : List ℕ) → Heads h b → length b ≤ 7
head_short (App n len) b h = omega (arith, ap length h.octets, length-append h.front h.back, ap length h.opening.octets, number_short h.opening.form n, ap length h.ending.octets, length_short h.ending.form len)
head_short (Ctx n len) b h = omega (arith, ap length h.octets, length-append h.front h.back, ap length h.opening.octets, number_short h.opening.form n, ap length h.ending.octets, length_short h.ending.form len)
head_short (AppBool false) b h = omega (arith, ap length h.octets, length-append h.front h.back, ap length h.opening.octets, number_short h.opening.form 1, ap length h.ending.1)
head_short (AppBool true) b h = omega (arith, ap length h.octets, length-append h.front h.back, ap length h.opening.octets, number_short h.opening.form 1, ap length h.ending.1)
head_short (Open n) b h = omega (arith, ap length h.octets, length-append h.front h.back, ap length h.opening.octets, number_short h.opening.form n, ap length h.ending.1)
head_short (Close n) b h = omega (arith, ap length h.octets, length-append h.front h.back, ap length h.opening.octets, number_short h.opening.form n, ap length h.ending.1)

pub taken_short : (context : Bool) (number len taken : ℕ) (octets : List ℕ) → Takes (λ (len : ℕ). Heads (headed context number len)) octets (len, taken) → taken ≤ 7
taken_short context number len taken octets t = omega (arith, head_short (headed context number len) (take taken octets) t.spelled, length-take-le taken octets t.within)
