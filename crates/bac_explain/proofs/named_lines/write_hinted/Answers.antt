use Rattle.std.proofs.Common.{take}
use Rattle.bac_explain.proofs.LineLemmas.{hinted}
use Rattle.bac_explain.proofs.named_lines.write_hinted.Goals as goal

pub returns-clause-text : goal.returns-clause-text
returns-clause-text c =
    let said = c.in_ok-end.ensures.text in
    hinted c.write_octets.result c.args.hint.now c.args.piece.now c.args.own.now (take c.args.at c.args.out.now.items) (take c.in_ok-end.end c.write_said.new.out.items) c.write_octets.new.out.items said.0 c.hint_for.result.now said.1 said.2 c.hint_for.ensures c.write_octets.ensures.text
