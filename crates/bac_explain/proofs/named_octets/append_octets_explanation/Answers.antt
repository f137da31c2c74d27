use Rattle.std.proofs.Common.{◌≢◌}
use Rattle.bac_tag.specs.declared.refusals.Why.TheVariants.{OutOfMemory}
use Rattle.bac_npdu_parts.specs.Frames.{value_of}
use Rattle.bac_explain.proofs.named_octets.append_octets_explanation.Goals as goal

pub returns-in_ok-append_marked_explanation-in-Ok-clause-verdict : goal.returns-in_ok-append_marked_explanation-in-Ok-clause-verdict
returns-in_ok-append_marked_explanation-in-Ok-clause-verdict c = (value_of c.in-Ok.frame, c.in-Ok.ensures.found, c.in-Ok.ensures.mark, c.is_typed_body-typed.ensures)

pub returns-in_ok-append_marked_explanation-in-Ok-clause-lines : goal.returns-in_ok-append_marked_explanation-in-Ok-clause-lines
returns-in_ok-append_marked_explanation-in-Ok-clause-lines c =
    let told = c.in_ok-append_marked_explanation-in-Ok.ensures.ok in
    (told.0, told.1, (value_of c.in-Ok.frame, c.in-Ok.ensures.found, told.2))

pub returns-in_ok-append_refusal_explanation-in-Err-2-clause-verdict : goal.returns-in_ok-append_refusal_explanation-in-Err-2-clause-verdict
returns-in_ok-append_refusal_explanation-in-Err-2-clause-verdict c =
    let e = c.in-Err.ensures in
    let other : c.in-Err.refusal.why ≢ OutOfMemory = λ same. let f = rw same at c.if-eq.ensures in absurd (cc) in
    (e.refused other, record { of_version = e.versions; of_address = e.addresses; of_type = e.types; of_window = e.windows; others = e.reasons }, other)
