use Rattle.std.proofs.Common.{subst}
use Rattle.std.proofs.lemmas.Result.{err_from_is_err_and}
use Rattle.bac_apdu.specs.Apdus.{ApduValue}
use Rattle.bac_npdu_parts.specs.Frames.{value_of}
use Rattle.bac_npdu.specs.Steps.{IsFrameOf}
use Rattle.bac_npdu.proofs.StepLemmas.{if_found, if_refused}
use Rattle.bac_npdu.proofs.frame_decoding.decode_frame.Goals as goal

pub returns-in_err-front : goal.returns-in_err-front
returns-in_err-front c =
    let p = err_from_is_err_and c.from_residual.result c.from_residual.ensures.1 in
    let e = c.in_err-front.ensures.0 in
    rw (p.1, p.2) (record { found = tt; refused = e.refused; memory = e.memory; versions = e.reasoned.of_version; addresses = e.reasoned.of_address; types = e.reasoned.of_type; windows = e.reasoned.of_window; reasons = e.reasoned.others })

pub returns-then-not-is_local : goal.returns-then-not-is_local
returns-then-not-is_local c =
    let b = c.args.octets.now in
    let r = c.decode_other-other.result in
    let d = c.decode_other-other.ensures in
    record { found = if_found b r d (λ frame spelled. spelled); refused = if_refused b r d (λ refusal e. e.refused); memory = if_refused b r d (λ refusal e. e.memory); versions = if_refused b r d (λ refusal e. e.reasoned.of_version); addresses = if_refused b r d (λ refusal e. e.reasoned.of_address); types = if_refused b r d (λ refusal e. e.reasoned.of_type); windows = if_refused b r d (λ refusal e. e.reasoned.of_window); reasons = if_refused b r d (λ refusal e. e.reasoned.others) }

pub returns-in_err-apdu : goal.returns-in_err-apdu
returns-in_err-apdu c =
    let p = err_from_is_err_and c.from_residual-in_err-apdu.result c.from_residual-in_err-apdu.ensures.1 in
    let e = c.in_err-apdu.ensures in
    rw (p.1, p.2) (record { found = tt; refused = e.refused; memory = e.memory; versions = e.reasoned.of_version; addresses = e.reasoned.of_address; types = e.reasoned.of_type; windows = e.reasoned.of_window; reasons = e.reasoned.others })

pub returns : goal.returns
returns c =
    let front = c.in_ok-front.front in
    let m = c.in_ok-apdu.ensures in
    let f = value_of c.local_frame.result in
    let of : IsFrameOf front m.value f = subst (λ (a : ApduValue). IsFrameOf front a f) m.made_of c.local_frame.ensures in
    record { found = m.spelled f of; refused = tt; memory = tt; versions = tt; addresses = tt; types = tt; windows = tt; reasons = tt }
