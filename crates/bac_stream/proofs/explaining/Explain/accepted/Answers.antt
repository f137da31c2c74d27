use Rattle.std.proofs.lemmas.Result.{err_from_is_err_and}
use Rattle.bac_npdu_parts.specs.Frames.{value_of}
use Rattle.bac_stream.proofs.ExplainingLemmas.{accepted_by, hopeless_by, marked_by}
use Rattle.bac_stream.proofs.JudgingLemmas.{reasoned}
use Rattle.bac_stream.proofs.explaining.Explain.accepted.Goals as goal

pub returns-in_err-frame-clause-refused : goal.returns-in_err-frame-clause-refused
returns-in_err-frame-clause-refused c =
    let p = err_from_is_err_and c.from_residual.result c.from_residual.ensures.1 in
    let e = c.in_err-frame.ensures in
    rw (p.1, p.2) (λ other. hopeless_by c.args.self.mode c.args.octets.now _ (e.refused other, reasoned e.versions e.addresses e.types e.windows e.reasons, other))

pub returns-in-None-clause-accepted : goal.returns-in-None-clause-accepted
returns-in-None-clause-accepted c =
    let e = c.in_ok-frame.ensures in
    accepted_by c.frames_have_one_value.ensures c.args.self.mode (value_of c.in_ok-frame.frame) c.args.octets.now c.in_ok-frame.mark e.found e.mark c.in-None.ensures.none

pub returns-in-Some-clause-refused : goal.returns-in-Some-clause-refused
returns-in-Some-clause-refused c =
    let e = c.in_ok-frame.ensures in
    let flaw = c.in-Some.ensures.some in
    λ other. marked_by c.frames_have_one_value.ensures c.args.self.mode (value_of c.in_ok-frame.frame) c.args.octets.now c.in_ok-frame.mark e.found e.mark c.in-Some.refusal flaw.0 flaw.1 flaw.2
