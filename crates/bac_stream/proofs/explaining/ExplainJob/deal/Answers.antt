use Rattle.std.proofs.Common.{◌≢◌}
use Rattle.bac_tag.specs.declared.refusals.Why.TheVariants.{OutOfMemory}
use Rattle.bac_npdu_parts.specs.Frames.{value_of}
use Rattle.bac_stream.proofs.ExplainingLemmas.{frame_explained, refusal_explained}
use Rattle.bac_stream.proofs.explaining.ExplainJob.deal.Goals as goal

pub returns-in_ok-append_accepted-in-Ok-clause-dealt : goal.returns-in_ok-append_accepted-in-Ok-clause-dealt
returns-in_ok-append_accepted-in-Ok-clause-dealt c =
    frame_explained c.args.self.now.mode c.args.number c.args.octets.now c.args.out.now.items c.append_accepted.new.out.items (value_of c.in-Ok.frame) c.in-Ok.mark c.accepted-in-Ok.result c.in-Ok.ensures.accepted c.in_ok-append_accepted-in-Ok.ensures.ok c.accepted-in-Ok.ensures.canonical
    c.accepted-in-Ok.ensures.accepted

pub returns-in_ok-append_refused-in-Err-2-clause-dealt : goal.returns-in_ok-append_refused-in-Err-2-clause-dealt
returns-in_ok-append_refused-in-Err-2-clause-dealt c =
    let other : c.in-Err.refusal.why ≢ OutOfMemory = λ same. let f = rw same at c.if-eq.ensures in absurd (cc) in
    refusal_explained c.args.self.now.mode c.args.number c.args.octets.now c.args.out.now.items c.append_refused.new.out.items c.in-Err.refusal c.refused.result (c.in-Err.ensures.refused other) c.in_ok-append_refused-in-Err-2.ensures.ok c.refused.ensures
