use Rattle.std.proofs.Common.{◌++◌, take, ap, arith, ◌∙◌}
use Rattle.std.specs.Prelude.{codes}
use Rattle.std.specs.List.{flat_map}
use Rattle.std.proofs.lemmas.List.{take_all}
use Rattle.bac_text.proofs.TextLemmas.{on_err, extends_more}
use Rattle.bac_text.proofs.lists.write_others.Goals as goal

pub returns-in_err-end-clause-err : goal.returns-in_err-end-clause-err
returns-in_err-end-clause-err g c =
    on_err c.from_residual.result
    (extends_more (take c.args.at c.args.out.now.items) (take c.loop-item.end c.loop-item.out.items) c.write_word.new.out.items (_, c.loop-item.invariant.1) c.in_err-end.ensures.err)

pub returns-in_err-end-2-clause-err : goal.returns-in_err-end-2-clause-err
returns-in_err-end-2-clause-err g c =
    on_err c.from_residual-in_err-end-2.result
    (extends_more (take c.args.at c.args.out.now.items) (take c.in_ok-end.end c.write_word.new.out.items) c.write_text.new.out.items
    (extends_more (take c.args.at c.args.out.now.items) (take c.loop-item.end c.loop-item.out.items) (take c.in_ok-end.end c.write_word.new.out.items) (_, c.loop-item.invariant.1) (_, c.in_ok-end.ensures.text)) c.in_err-end-2.ensures.err)

pub returns-clause-text : goal.returns-clause-text
returns-clause-text g c =
    c.loop-item.invariant.1
    ∙ ap (λ l. take c.args.at c.args.out.now.items ++ flat_map (λ item. codes " " ++ g.T.HasText.text item) l) (take_all c.loop-item.item-index c.args.items.now (omega arith))
