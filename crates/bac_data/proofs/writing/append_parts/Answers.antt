use Rattle.std.proofs.Common.{ℕ, List, ◌++◌, ◌∙◌, sym, ap, subst, refl, length, append_assoc, arith}
use Rattle.bac_tag.specs.declared.heads.TagHead.TheVariants.{App}
use Rattle.bac_tag.specs.Spelling.{IsLeast}
use Rattle.bac_tag.specs.Heads.{Heads}
use Rattle.bac_value.specs.declared.prim.PrimitiveValue.{PrimitiveValue}
use Rattle.bac_value.specs.PrimContents.{application_number, prim_written}
use Rattle.bac_value.specs.Laws.Prim.{prim_limit, prim_written_contents}
use Rattle.bac_data.specs.Spells.{SpellsPrimitive}
use Rattle.bac_data.proofs.EventLeastLemmas.{least_boolean_of, least_contents, number_of_others}
use Rattle.bac_data.proofs.ResultLemmas.{on_ok, on_err_then}
use Rattle.bac_data.proofs.writing.append_parts.Goals as goal

pub returns-in-Boolean-clause-ok : goal.returns-in-Boolean-clause-ok
returns-in-Boolean-clause-ok c =
    on_ok c.append_head.result c.append_head.ensures.ok (λ a. record {
      more = a.more;
      is_least = subst (λ (p : PrimitiveValue). IsLeast (SpellsPrimitive p) a.more) (sym c.in-Boolean.is) (least_boolean_of c.in-Boolean.value a.more a.is_least);
      new_is = a.new_is;
    })

pub overflow_cast-len : goal.overflow_cast-len
overflow_cast-len c =
    let limit = prim_limit c.args.prim.now (prim_written c.args.prim.now) (prim_written_contents c.args.prim.now c.written_len-len.ensures.value) in
    omega (arith, c.written_len-len.ensures.len, limit)

pub returns : goal.returns
returns c =
    let prim = c.args.prim.now in
    let a = c.in_ok-append_head.ensures.ok in
    let written = prim_written_contents prim c.write.ensures.value in
    let head : IsLeast (Heads (App (application_number prim) (length (prim_written prim)))) a.more =
    subst (λ (n : ℕ). IsLeast (Heads (App n (length (prim_written prim)))) a.more) c.number-number.ensures (subst (λ (n : ℕ). IsLeast (Heads (App c.number-number.result n)) a.more) c.written_len-len.ensures.len a.is_least)
    in record {
      ok = on_ok c.write.result c.write.ensures.ok (λ more. record {
        more = a.more ++ prim_written prim;
        is_least = least_contents prim (prim_written prim) a.more (number_of_others prim c.in_default.not-Boolean) written refl head;
        new_is = more ∙ ap (λ (l : List ℕ). l ++ prim_written prim) a.new_is ∙ append_assoc c.args.out.now.items a.more (prim_written prim);
      });
      err = on_err_then c.write.result c.write.ensures.err (λ kept. (a.more, kept ∙ a.new_is));
    }
