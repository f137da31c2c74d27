-- Lemmas on pieces as numbers.
use Rattle.std.proofs.Common.{◌≡◌, ◌≤◌, ℕ, List, length, take, drop, sym, ap, ◌∙◌, arith, option_map}
use Rattle.std.specs.Prelude.{Option, Some}
use Rattle.std.proofs.lemmas.List.{length-take-le, take-append-drop}
use Rattle.bac_tag.specs.Heads.{Heads}
use Rattle.bac_tag.specs.Spelling.{EndsItself, Takes}
use Rattle.bac_tag.specs.declared.heads.TagHead.{TagHead}
use Rattle.bac_explain.specs.declared.piece.Kind.{Kind}
use Rattle.bac_explain.specs.declared.piece.Kind.TheVariants as kind
use Rattle.bac_explain.specs.Numbers.{BeginsWith, kind_number}

-- ---- what is read of a tag head

-- Octets begin with one tag head.
pub head_found : (own : List ℕ) (found tag : TagHead) (taken size : ℕ) → EndsItself Heads → Takes Heads own (found, taken) → size ≤ length own → Heads tag (take size own) → (taken ≡ size) × (found ≡ tag)
head_found own found tag taken size ends takes le spelled =
    let same = ends found tag (take taken own) (take size own) (drop taken own) (drop size own) takes.spelled spelled (take-append-drop taken own ∙ sym (take-append-drop size own)) in
    (omega (arith, ap length same.0, length-take-le taken own takes.within, length-take-le size own le), same.1)

-- A tag head that is read is the one that is there.
abbrev pub Finds : List ℕ → ℕ → Option TagHead → Type 0
Finds own size found = (tag : TagHead) → size ≤ length own → Heads tag (take size own) → found ≡ Some tag

-- The kind with number 31.
pub element_told : (own : List ℕ) (head : ℕ) (found : Option TagHead) (is : Kind) → Finds own head found → 31 ≡ kind_number is → BeginsWith own head is → option_map kind.Element found ≡ Some is
element_told own head found (kind.Element tag) finds e begins = ap (option_map kind.Element) (finds tag begins.0 begins.1)
element_told own head found _ finds e begins = absurd (omega (arith, e))

-- The kind with number 32.
pub unjudged_told : (own : List ℕ) (head : ℕ) (found : Option TagHead) (is : Kind) → Finds own head found → 32 ≡ kind_number is → BeginsWith own head is → option_map kind.Unjudged found ≡ Some is
unjudged_told own head found (kind.Unjudged tag) finds e begins = ap (option_map kind.Unjudged) (finds tag begins.0 begins.1)
unjudged_told own head found _ finds e begins = absurd (omega (arith, e))
