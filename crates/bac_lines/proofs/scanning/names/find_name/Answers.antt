use Rattle.std.specs.Cmp.Lexicographic.{bytes_decides}
use Rattle.std.proofs.Common.{◌∙◌, sym, ap, arith, inl, inr}
use Rattle.std.proofs.lemmas.Bool.Decides.{not_from_Decides}
use Rattle.bac_field_parts.specs.Names.{word_of}
use Rattle.bac_lines.proofs.NameLemmas.{among_at, among_more}
use Rattle.bac_lines.proofs.scanning.names.find_name.Goals as goal

pub returns-then-eq-clause-some : goal.returns-then-eq-clause-some
returns-then-eq-clause-some c =
    let same = (bytes_decides c.as_bytes.result.now c.args.word.now).0 (sym c.eq.ensures ∙ c.if-eq.true) in
    (among_at c.args.names.now c.loop-index.index _ c.loop-index-test.true, sym same ∙ c.as_bytes.ensures.value ∙ c.word.ensures)

pub loop-index-preserved : goal.loop-index-preserved
loop-index-preserved c = record {
  within = omega (arith, c.loop-index-test.true);
  none = λ n m e. elim (among_more c.args.names.now c.loop-index.index _ n c.loop-index-test.true m) [
    | inl before ↦ c.loop-index.invariant.none n before e
    | inr is ↦ not_from_Decides _ (bytes_decides c.as_bytes.result.now c.args.word.now) (sym c.if-eq.ensures) (c.as_bytes.ensures.value ∙ c.word.ensures ∙ ap word_of (sym is) ∙ sym e)
  ];
}
