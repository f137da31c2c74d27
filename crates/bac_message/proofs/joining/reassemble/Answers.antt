use Rattle.std.proofs.Common.{◌∙◌, arith}
use Rattle.std.proofs.lemmas.Result.{err_from_is_err_and}
use Rattle.bac_npdu_parts.specs.Frames.{value_of}
use Rattle.bac_message.specs.Messages.{heads_of}
use Rattle.bac_message.proofs.FitLemmas.{misfit_at, taken_more}
use Rattle.bac_message.proofs.joining.reassemble.Goals as goal

pub returns-in_err-take_frame-clause-err : goal.returns-in_err-take_frame-clause-err
returns-in_err-take_frame-clause-err c =
    let p = err_from_is_err_and c.from_residual.result c.from_residual.ensures.1 in
    rw (p.1, p.2) (misfit_at (heads_of (value_of c.args.first.now)) c.args.frames.now c.loop-index.index c.index-frames-index.result c.loop-index.reassembly.table _ (omega (arith, c.loop-index-test.true)) c.index-frames-index.is c.requires.first
    c.loop-index.invariant.far c.in_err-take_frame.ensures.err)

pub loop-index-preserved : goal.loop-index-preserved
loop-index-preserved c = record {
  far = taken_more (heads_of (value_of c.args.first.now)) c.args.frames.now c.loop-index.index c.index-frames-index.result c.loop-index.reassembly.table c.take_frame.new.reassembly.table (omega (arith, c.loop-index-test.true)) c.index-frames-index.is
      c.loop-index.invariant.far c.in_ok-take_frame.ensures.ok;
  key = c.in_ok-take_frame.ensures.key ∙ c.loop-index.invariant.key;
}
