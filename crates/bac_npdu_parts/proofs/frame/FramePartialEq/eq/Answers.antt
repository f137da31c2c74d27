use Rattle.std.proofs.Common.{◌∙◌, sym}
use Rattle.bac_npdu_parts.proofs.SameLemmas.{frames_differ, frames_tell}
use Rattle.bac_npdu_parts.proofs.frame.FramePartialEq.eq.Goals as goal

pub returns-then-have_equal_fronts-clause-same : goal.returns-then-have_equal_fronts-clause-same
returns-then-have_equal_fronts-clause-same c =
    frames_tell c.args.self.now c.args.other.now c.eq.result (sym c.have_equal_fronts.ensures ∙ c.if-have_equal_fronts.true) c.eq.ensures.same

pub returns-else-have_equal_fronts-clause-same : goal.returns-else-have_equal_fronts-clause-same
returns-else-have_equal_fronts-clause-same c =
    frames_differ c.args.self.now c.args.other.now c.have_equal_fronts.result c.have_equal_fronts.ensures c.if-have_equal_fronts.false
