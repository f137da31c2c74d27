use Rattle.std.proofs.Common.{◌+◌, length, arith}
use Rattle.bac_explain.proofs.ExplainLemmas.{explained_in}
use Rattle.bac_explain.proofs.explanation.pieces_of.Goals as goal

pub returns : goal.returns
returns c =
    explained_in c.args.octets.now c.args.verdict c.as_mut_slice.result.now c.write_pieces-count.new.room _ c.truncate.new.self.items c.write_pieces-count.result (length c.args.octets.now + 1) _ c.write_pieces-count.ensures.pieces c.write_pieces-count.ensures.few
    (omega (arith, c.as_mut_slice.ensures.len, c.in_ok-resize.ensures.len)) (omega (arith, c.as_mut_slice.ensures.len)) c.truncate.ensures.items
