use Rattle.std.proofs.Common.{◌≡◌, ◌++◌, ◌-◌, ◌/◌, length, subst, take}
use Rattle.std.specs.Prelude.{IfOk, codes}
use Rattle.bac_explain.specs.Lines.{further_lines}
use Rattle.bac_explain.proofs.LineLemmas.{written_last}
use Rattle.bac_explain.proofs.lines.write_end.Goals as goal

pub returns-clause-text : goal.returns-clause-text
returns-clause-text c =
    let new = c.write_further_lines.new.out.items in
    let mid = take c.in_ok-end.end c.write_word.new.out.items in
    written_last c.write_further_lines.result (take c.args.at c.args.out.now.items) mid new (codes "\n") (further_lines c.args.piece.now c.args.own.now ((length c.args.own.now - 1) / 8)) c.in_ok-end.ensures.text
    (subst (λ n. IfOk c.write_further_lines.result (λ end. take end new ≡ mid ++ further_lines c.args.piece.now c.args.own.now (n / 8))) c.saturating_sub.ensures c.write_further_lines.ensures.text)
