use Rattle.std.proofs.Common.{rules, ◌≡◌, ◌∙◌, subst}
use Rattle.bac_tag.specs.declared.heads.TagHead.{TagHead}
use Rattle.bac_tag.specs.Heads.{Heads}
use Rattle.bac_tag.proofs.HeadLenLemmas.{least_as_short}
use Rattle.bac_tag.proofs.marks.mark_read_head.Goals as goal

pub returns-then-taken-head_len : goal.returns-then-taken-head_len
returns-then-taken-head_len c = λ b p.
    let same : c.args.read ≡ c.args.head = search (rules, c.if-eq.ensures) in
    least_as_short c.args.head c.args.taken.now b (subst (λ (h : TagHead). Heads h c.args.taken.now) same c.requires.spelled) p (c.if-taken-head_len.true ∙ c.head_len.ensures b p)
