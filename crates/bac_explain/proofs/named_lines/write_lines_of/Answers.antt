use Rattle.std.proofs.Common.{arith, take}
use Rattle.bac_explain.proofs.LineLemmas.{beside_first, beside_none}
use Rattle.bac_explain.proofs.named_lines.write_lines_of.Goals as goal

pub returns-in-len1-up-clause-text : goal.returns-in-len1-up-clause-text
returns-in-len1-up-clause-text c =
    beside_first c.write_lines_beside.result c.args.octets.now c.args.canonical.now c.args.fields.now c.args.hint.now c.args.piece.now c.args.others.now _ (take c.args.at c.args.out.now.items) c.write_lines_beside.new.out.items (omega (arith, c.in-len1-up.len_at_least))
    c.write_lines_beside.ensures.text

pub returns-in-empty-clause-text : goal.returns-in-empty-clause-text
returns-in-empty-clause-text c =
    beside_none c.write_alone.result c.args.octets.now c.args.canonical.now c.args.fields.now c.args.hint.now c.args.piece.now c.args.others.now c.own.result.now (take c.args.at c.args.out.now.items) c.write_alone.new.out.items (omega (arith, c.in-empty.len_below)) c.own.ensures.own
    c.write_alone.ensures.text
