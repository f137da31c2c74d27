use Rattle.std.specs.Prelude.{◌≡◌, ℕ, Option}
use Rattle.std.proofs.Common.{subst, rules}
use Rattle.std.proofs.lemmas.Result.{err_from_is_err_and}
use Rattle.bac_tag.specs.Octets.{joined_mark}
use Rattle.bac_tag.specs.Spelling.{HasMark}
use Rattle.bac_apdu.specs.Apdus.{ApduValue}
use Rattle.bac_npdu_parts.specs.Frames.{SpellsFrame, value_of}
use Rattle.bac_npdu.specs.Steps.{IsFrameOf}
use Rattle.bac_npdu.proofs.StepLemmas.{if_found_marked, if_refused_marked}
use Rattle.bac_npdu.proofs.frame_decoding.decode_marked.Goals as goal

pub returns-in_err-front : goal.returns-in_err-front
returns-in_err-front c =
    let p = err_from_is_err_and c.from_residual.result c.from_residual.ensures.1 in
    let e = c.in_err-front.ensures.0 in
    rw (p.1, p.2) (record { found = tt; mark = tt; refused = e.refused; memory = e.memory; versions = e.reasoned.of_version; addresses = e.reasoned.of_address; types = e.reasoned.of_type; windows = e.reasoned.of_window; reasons = e.reasoned.others })

pub returns-then-not-is_local : goal.returns-then-not-is_local
returns-then-not-is_local c =
    let b = c.args.octets.now in
    let r = c.decode_other_marked-other.result in
    let d = c.decode_other_marked-other.ensures in
    record { found = if_found_marked b r d (λ found e. e.spelled); mark = if_found_marked b r d (λ found e. e.marked); refused = if_refused_marked b r d (λ refusal e. e.refused); memory = if_refused_marked b r d (λ refusal e. e.memory); versions = if_refused_marked b r d (λ refusal e. e.reasoned.of_version); addresses = if_refused_marked b r d (λ refusal e. e.reasoned.of_address); types = if_refused_marked b r d (λ refusal e. e.reasoned.of_type); windows = if_refused_marked b r d (λ refusal e. e.reasoned.of_window); reasons = if_refused_marked b r d (λ refusal e. e.reasoned.others) }

pub returns-in_err-apdu : goal.returns-in_err-apdu
returns-in_err-apdu c =
    let p = err_from_is_err_and c.from_residual-in_err-apdu.result c.from_residual-in_err-apdu.ensures.1 in
    let e = c.in_err-apdu.ensures in
    rw (p.1, p.2) (record { found = tt; mark = tt; refused = e.refused; memory = e.memory; versions = e.reasoned.of_version; addresses = e.reasoned.of_address; types = e.reasoned.of_type; windows = e.reasoned.of_window; reasons = e.reasoned.others })

pub returns : goal.returns
returns c =
    let b = c.args.octets.now in
    let front = c.in_ok-front.front in
    let m = c.in_ok-apdu.ensures in
    let f = value_of c.local_frame.result in
    let of : IsFrameOf front m.value f = subst (λ (a : ApduValue). IsFrameOf front a f) m.made_of.0 c.local_frame.ensures in
    let mark : joined_mark c.mark_of.result front.size m.mark ≡ c.joined-mark.result = search (rules, m.made_of.1, c.joined-mark.ensures, m.behind) in
    let marked = subst (λ (o : Option ℕ). HasMark (SpellsFrame f) b o) mark (m.marked f c.mark_of.result of c.mark_of.ensures) in
    record { found = m.spelled f of; mark = marked; refused = tt; memory = tt; versions = tt; addresses = tt; types = tt; windows = tt; reasons = tt }
