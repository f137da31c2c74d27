use Rattle.std.proofs.Common.{add-one, arith, refl, subst, sym}
use Rattle.bac_explain.specs.Completions.{SameOctets}
use Rattle.bac_explain.proofs.CompletionLemmas.{same_more}
use Rattle.bac_explain.proofs.named_refusal.same_pieces.Goals as goal

pub loop-count-preserved : goal.loop-count-preserved
loop-count-preserved c =
    let pieces = c.args.pieces.now in
    let others = c.args.others.now in
    let count = c.loop-count.count in
    let more = same_more count pieces others _ _ (omega (arith, c.loop-count-test.true)) (omega (arith, c.if-count-others.true)) c.loop-count.invariant.1 (c.if-are_same.ensures.place refl) (c.if-are_same.ensures.length refl) in
    (omega (arith, c.loop-count-test.true), subst (λ n. SameOctets n pieces others) (sym (add-one count)) more)
