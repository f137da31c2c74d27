-- Marks of heads.
use Rattle.std.proofs.Common.{◌≡◌, ℕ, ◌<◌, List, Option, Some, None, length, ap, subst, arith, length-append}
use Rattle.std.specs.Prelude.{IfNone, IfSome}
use Rattle.bac_tag.specs.declared.heads.TagHead.{TagHead}
use Rattle.bac_tag.specs.Octets.{FirstDifference, IsMark}
use Rattle.bac_tag.specs.Spelling.{IsLeast, IsSpelling}
use Rattle.bac_tag.specs.Laws.Spelling.{IsLeast-one, difference_within}
use Rattle.bac_tag.specs.Heads.{Heads}
use Rattle.bac_tag.specs.Laws.Heads.{heads_end}

mark_by : (h k : TagHead) (taken b : List ℕ) (r : Option ℕ) → Heads k taken → Heads h b → IfNone r (taken ≡ b) → IfSome r (FirstDifference taken b) → IsMark taken b r
mark_by h k taken b None p q none some = none
mark_by h k taken b (Some place) p q none some = let within = difference_within Heads heads_end k h taken b place p q some in (within.0, within.1, some)

pub mark : (h : TagHead) (taken canonical : List ℕ) (r : Option ℕ) → IsSpelling Heads taken → IsLeast (Heads h) canonical → IfNone r (taken ≡ canonical) → IfSome r (FirstDifference taken canonical)
    → (b : List ℕ) → IsLeast (Heads h) b → IsMark taken b r
mark h taken canonical r s least none some b other =
    subst (λ (t : List ℕ). IsMark taken t r) (IsLeast-one (Heads h) canonical b least other) (mark_by h s.0 taken canonical r s.1 least.member none some)

-- a spelling has a first octet
pub spelled_some : (h : TagHead) (b : List ℕ) → Heads h b → 0 < length b
spelled_some h b s = omega (arith, ap length s.octets, length-append s.front s.back, ap length s.opening.octets)
