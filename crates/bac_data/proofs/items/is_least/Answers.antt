use Rattle.std.proofs.Common.{◌≡◌, ℕ, List, true, false, length, sym, ◌∙◌, subst}
use Rattle.bac_tag.specs.declared.heads.TagHead.{TagHead}
use Rattle.bac_tag.specs.Heads.{Heads}
use Rattle.bac_tag.specs.Spelling.{IsLeast}
use Rattle.bac_data.proofs.MarkLemmas.{least_as_long, whole_least}
use Rattle.bac_data.proofs.items.is_least.Goals as goal

pub returns-then-contents_are_least : goal.returns-then-contents_are_least
returns-then-contents_are_least c =
    least_as_long c.args.item c.requires.item c.args.head.now c.requires.headed c.head_len.result
    (subst (λ (h : TagHead). (b : List ℕ) → IsLeast (Heads h) b → c.head_len.result ≡ length b) c.head_of.ensures c.head_len.ensures)
    (c.contents_are_least.ensures.0 c.if-contents_are_least.true)

pub returns-else-contents_are_least : goal.returns-else-contents_are_least
returns-else-contents_are_least c = (
  λ t. absurd (let u : false ≡ true = sym c.if-contents_are_least.false ∙ t in cc),
  λ whole. c.contents_are_least.ensures.1 (whole_least c.args.item c.requires.item c.args.head.now c.requires.headed whole).1,
)
