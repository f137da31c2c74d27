use Rattle.std.proofs.Common.{arith, take}
use Rattle.bac_explain.proofs.LineLemmas.{lines_step, refused_after}
use Rattle.bac_explain.proofs.lines.write_all.Goals as goal

pub returns-in_err-end-clause-err : goal.returns-in_err-end-clause-err
returns-in_err-end-clause-err c =
    let so_far = c.loop-piece.invariant.1 in
    refused_after c.from_residual.result (take c.args.at c.args.out.now.items) (take c.loop-piece.end c.loop-piece.out.items) c.write_piece.new.out.items so_far.0 so_far.1 c.in_err-end.ensures.err

pub loop-piece-preserved : goal.loop-piece-preserved
loop-piece-preserved c =
    let so_far = c.loop-piece.invariant.1 in (
      c.in_ok-end.ensures.end,
      lines_step c.args.octets.now c.args.pieces.now c.loop-piece.piece-index _ c.own.result.now (take c.args.at c.args.out.now.items) (take c.loop-piece.end c.loop-piece.out.items) (take c.in_ok-end.end c.write_piece.new.out.items) so_far.0 (omega (arith, c.loop-piece-test.true)) c.own.ensures.own so_far.1 so_far.2
          c.in_ok-end.ensures.text,
    )
