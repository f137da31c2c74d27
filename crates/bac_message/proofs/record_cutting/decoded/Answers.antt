use Rattle.std.proofs.Common.{◌≢◌}
use Rattle.bac_tag.specs.declared.refusals.Why.TheVariants.{OutOfMemory}
use Rattle.bac_message.proofs.RecordLemmas.{no_frame}
use Rattle.bac_message.proofs.record_cutting.decoded.Goals as goal

pub returns-in-Err-2-clause-fault : goal.returns-in-Err-2-clause-fault
returns-in-Err-2-clause-fault c =
    let e = c.in-Err.ensures in
    let other : c.in-Err.refusal.why ≢ OutOfMemory = λ same. let f = rw same at c.if-eq.ensures in absurd (cc) in
    λ size window. no_frame c.args.octets.now c.in-Err.refusal other e.refused e.versions e.addresses e.types e.windows e.reasons
