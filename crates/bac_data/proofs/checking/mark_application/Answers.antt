use Rattle.std.proofs.Common.{ℕ, sym, subst, arith}
use Rattle.bac_tag.specs.declared.heads.TagHead.TheVariants.{App}
use Rattle.bac_tag.specs.Heads.{Heads}
use Rattle.bac_tag.specs.Spelling.{IsLeast}
use Rattle.bac_data.proofs.CheckingLemmas.{none_at, some_at}
use Rattle.bac_data.proofs.MarkLemmas.{application_marked, written_small}
use Rattle.bac_data.proofs.checking.mark_application.Goals as goal

pub overflow_cast-written : goal.overflow_cast-written
overflow_cast-written c =
    let (prim, s) = c.requires.contents in
    let few = written_small c.args.number prim c.args.contents.now s in
    omega (arith, few, c.written_len_of-written.ensures prim s)

pub returns : goal.returns
returns c = λ b q.
    let (prim, s) = c.requires.contents in
    let is = c.written_len_of-written.ensures prim s in
    rw c.joined_marks.ensures (application_marked c.args.number prim c.args.contents.now s c.requires.number c.requires.other c.args.head.now c.requires.headed c.mark_read_head-mark.result c.mark_contents.result
    (λ l p. c.mark_read_head-mark.ensures l (subst (λ (n : ℕ). IsLeast (Heads (App c.args.number n)) l) (sym is) p))
    (none_at c.mark_contents.result (λ same. same prim s) c.mark_contents.ensures.none) (some_at c.mark_contents.result (λ place differ. differ prim s) c.mark_contents.ensures.some) b q)
