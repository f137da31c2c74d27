use Rattle.std.proofs.Common.{ℕ, List, ◌++◌, ◌∙◌, ap, subst, length, append_assoc, arith}
use Rattle.bac_tag.specs.declared.heads.TagHead.TheVariants.{App}
use Rattle.bac_tag.specs.Spelling.{IsLeast}
use Rattle.bac_tag.specs.Heads.{Heads}
use Rattle.bac_value.specs.PrimContents.{prim_written}
use Rattle.bac_data.proofs.MarkLemmas.{written_small, least_by_head}
use Rattle.bac_data.proofs.ResultLemmas.{on_ok, on_err_then}
use Rattle.bac_data.proofs.writing.append_application.Goals as goal

pub overflow_cast-len : goal.overflow_cast-len
overflow_cast-len c =
    let (prim, s) = c.requires.contents in
    omega (arith, c.written_len_of-len.ensures prim s, written_small c.args.number prim c.args.contents.now s)

pub returns-clause-ok : goal.returns-clause-ok
returns-clause-ok c =
    let (prim, s) = c.requires.contents in
    let a = c.in_ok-append_head.ensures.ok in
    let head : IsLeast (Heads (App c.args.number (length (prim_written prim)))) a.more = subst (λ (n : ℕ). IsLeast (Heads (App c.args.number n)) a.more) (c.written_len_of-len.ensures prim s) a.is_least in
    on_ok c.append_written.result c.append_written.ensures.ok (λ written. record {
      more = a.more ++ prim_written prim;
      is_least = least_by_head c.args.number prim c.args.contents.now s c.requires.other a.more head;
      new_is = written prim s ∙ ap (λ (l : List ℕ). l ++ prim_written prim) a.new_is ∙ append_assoc c.args.out.now.items a.more (prim_written prim);
    })

pub returns-clause-err : goal.returns-clause-err
returns-clause-err c = on_err_then c.append_written.result c.append_written.ensures.err (λ kept. let a = c.in_ok-append_head.ensures.ok in (a.more, kept ∙ a.new_is))
