use Rattle.std.proofs.Common.{◌≡◌, sym, ◌∙◌, ap, subst, ◌++◌, List, ℕ}
use Rattle.bac_value.specs.PrimContents.{PrimContents, prim_written}
use Rattle.bac_value.specs.Laws.Prim.{prim_written_contents}
use Rattle.bac_vectors.proofs.values.is_borrowed_again.Goals as goal

pub of_contents-requires-clause-written : goal.of_contents-requires-clause-written
of_contents-requires-clause-written c =
    let is : c.deref.result.now ≡ prim_written c.args.prim.now = c.deref.ensures.value ∙ c.in_ok-write.ensures.ok ∙ ap (λ (l : List ℕ). l ++ prim_written c.args.prim.now) c.new-out.ensures.items in
    record {
      value = c.args.prim.now;
      spelled = (sym c.number.ensures, subst (PrimContents c.args.prim.now) (sym is) (prim_written_contents c.args.prim.now c.in_ok-write.ensures.value));
      is = is;
    }
