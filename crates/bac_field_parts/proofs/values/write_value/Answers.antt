use Rattle.std.proofs.Common.{◌∙◌, ◌≡◌, ap, subst, length}
use Rattle.std.proofs.lemmas.Result.{on_ok_weaker}
use Rattle.bac_tag.specs.declared.heads.TagHead.{TagHead}
use Rattle.bac_tag.specs.Spelling.{IsLeast}
use Rattle.bac_tag.specs.Heads.{Heads}
use Rattle.bac_productions.specs.Fields.{heading}
use Rattle.bac_productions.specs.Laws.Field.{appends_field}
use Rattle.bac_productions.specs.Laws.Least.{extends_written}
use Rattle.bac_field_parts.proofs.values.write_value.Goals as goal

pub returns-clause-ok : goal.returns-clause-ok
returns-clause-ok g c =
    let laws = g.met.T.Primitive in
    let w = g.T.Primitive.written c.args.value.now in
    let head : c.head_of.result ≡ heading c.args.context g.T.Primitive.APP (length w) = c.head_of.ensures ∙ ap (heading c.args.context g.T.Primitive.APP) c.written_len.ensures.len in
    let a = c.in_ok-append_head.ensures.ok in
    on_ok_weaker c.write.result (λ e. appends_field g.T.Primitive.contents c.args.context g.T.Primitive.APP c.args.value.now w a.more _ _ _ (laws.written_contents c.args.value.now c.written_len.ensures.value) (laws.written_least c.args.value.now)
    (subst (λ (h : TagHead). IsLeast (Heads h) a.more) head a.is_least) a.new_is e) c.write.ensures.ok

pub returns-clause-kept : goal.returns-clause-kept
returns-clause-kept g c = let head = c.in_ok-append_head.ensures.ok in extends_written c.write.result _ _ _ _ (head.more, head.new_is) c.write.ensures.ok c.write.ensures.err
