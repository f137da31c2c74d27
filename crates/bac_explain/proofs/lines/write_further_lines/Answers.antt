use Rattle.std.proofs.Common.{take}
use Rattle.bac_explain.specs.Lines.{further_lines}
use Rattle.bac_explain.proofs.LineLemmas.{further_more, refused_after}
use Rattle.bac_explain.proofs.lines.write_further_lines.Goals as goal

pub returns-in_err-end-clause-err : goal.returns-in_err-end-clause-err
returns-in_err-end-clause-err c =
    refused_after c.from_residual.result (take c.args.at c.args.out.now.items) (take c.loop-row.end c.loop-row.out.items) c.write_further.new.out.items (further_lines c.args.piece.now c.args.own.now c.loop-row.row) c.loop-row.invariant.1 c.in_err-end.ensures.err

pub loop-row-preserved : goal.loop-row-preserved
loop-row-preserved c = (
  c.in_ok-end.ensures.end,
  further_more c.args.piece.now c.args.own.now (take c.args.at c.args.out.now.items) (take c.loop-row.end c.loop-row.out.items) (take c.in_ok-end.end c.write_further.new.out.items) c.loop-row.row c.loop-row.invariant.1 c.in_ok-end.ensures.text,
)
