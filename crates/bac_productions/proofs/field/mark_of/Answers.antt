use Rattle.std.proofs.Common.{arith, ◌^◌, ◌<◌, ◌∙◌, ◌≡◌, ap, ℕ, List, length, subst}
use Rattle.bac_tag.specs.declared.heads.TagHead.{TagHead}
use Rattle.bac_tag.specs.Octets.{IsMark}
use Rattle.bac_tag.specs.Spelling.{IsLeast}
use Rattle.bac_tag.specs.Heads.{Heads}
use Rattle.bac_productions.specs.Fields.{heading}
use Rattle.bac_productions.specs.Laws.Field.{mark_field}
use Rattle.bac_productions.proofs.field.mark_of.Goals as goal

pub returns : goal.returns
returns g c =
    let laws = g.met.T.Primitive in
    let w = g.T.Primitive.written c.args.value.now in
    let spelled = laws.written_contents c.args.value.now (laws.only_values c.args.value.now c.args.contents.now c.requires.spelled) in
    let sized = laws.lengths c.args.value.now w spelled in
    let small : length w < 2 ^ 32 = omega (arith, sized.1, laws.within_limit.1) in
    let head : c.head_of-written.result ≡ heading c.args.context g.T.Primitive.APP (length w) = c.head_of-written.ensures ∙ ap (heading c.args.context g.T.Primitive.APP) c.written_len.ensures.len in
    mark_field g.T.Primitive.contents c.args.context g.T.Primitive.APP c.args.value.now w spelled (laws.written_least c.args.value.now) c.args.head.now c.args.contents.now c.mark_read_head-mark.result c.mark.result c.joined_marks.result
    c.requires.heading small c.requires.headed (subst (λ (h : TagHead). (b : List ℕ) → IsLeast (Heads h) b → IsMark c.args.head.now b c.mark_read_head-mark.result) head c.mark_read_head-mark.ensures)
    c.mark.ensures.none c.mark.ensures.some c.joined_marks.ensures
