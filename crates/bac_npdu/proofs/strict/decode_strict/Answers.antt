use Rattle.std.specs.Prelude.{◌≡◌, ℕ, Option, Some, None, refl}
use Rattle.std.proofs.Common.{subst, rules}
use Rattle.std.proofs.lemmas.Result.{err_from_is_err_and}
use Rattle.bac_tag.specs.declared.refusals.Why.TheVariants.{NotCanonical}
use Rattle.bac_tag.specs.Laws.Spelling.{unmarked_least}
use Rattle.bac_tag.specs.Octets.{joined_mark}
use Rattle.bac_tag.specs.Spelling.{HasMark}
use Rattle.bac_apdu.specs.Apdus.{ApduValue}
use Rattle.bac_npdu_parts.specs.Frames.{SpellsFrame, value_of}
use Rattle.bac_npdu.specs.Steps.{IsFrameOf, IsStrictlyRefused}
use Rattle.bac_npdu.proofs.StepLemmas.{frame_there, if_found_strictly, if_refused_strictly, strict_memory, strictly}
use Rattle.bac_npdu.proofs.strict.decode_strict.Goals as goal

pub returns-in_err-front : goal.returns-in_err-front
returns-in_err-front c =
    let b = c.args.octets.now in
    let p = err_from_is_err_and c.from_residual.result c.from_residual.ensures.1 in
    let e = strictly b _ c.in_err-front.ensures.0 in
    rw (p.1, p.2) (record { found = tt; flaw = e.flaw; refused = λ memory other. (e.refused other).refused memory; memory = strict_memory b _ e; versions = λ other. (e.refused other).reasoned.of_version; addresses = λ other. (e.refused other).reasoned.of_address; types = λ other. (e.refused other).reasoned.of_type; windows = λ other. (e.refused other).reasoned.of_window; reasons = λ other. (e.refused other).reasoned.others })

pub returns-then-not-is_local : goal.returns-then-not-is_local
returns-then-not-is_local c =
    let b = c.args.octets.now in
    let r = c.decode_other_strict-other.result in
    let d = c.decode_other_strict-other.ensures in
    record { found = if_found_strictly b r d (λ frame least. least); flaw = if_refused_strictly b r d (λ refusal e. e.flaw); refused = if_refused_strictly b r d (λ refusal e. λ memory other. (e.refused other).refused memory); memory = if_refused_strictly b r d (λ refusal e. strict_memory b refusal e); versions = if_refused_strictly b r d (λ refusal e. λ other. (e.refused other).reasoned.of_version); addresses = if_refused_strictly b r d (λ refusal e. λ other. (e.refused other).reasoned.of_address); types = if_refused_strictly b r d (λ refusal e. λ other. (e.refused other).reasoned.of_type); windows = if_refused_strictly b r d (λ refusal e. λ other. (e.refused other).reasoned.of_window); reasons = if_refused_strictly b r d (λ refusal e. λ other. (e.refused other).reasoned.others) }

pub returns-in_err-apdu : goal.returns-in_err-apdu
returns-in_err-apdu c =
    let b = c.args.octets.now in
    let p = err_from_is_err_and c.from_residual-in_err-apdu.result c.from_residual-in_err-apdu.ensures.1 in
    let e = strictly b _ c.in_err-apdu.ensures in
    rw (p.1, p.2) (record { found = tt; flaw = e.flaw; refused = λ memory other. (e.refused other).refused memory; memory = strict_memory b _ e; versions = λ other. (e.refused other).reasoned.of_version; addresses = λ other. (e.refused other).reasoned.of_address; types = λ other. (e.refused other).reasoned.of_type; windows = λ other. (e.refused other).reasoned.of_window; reasons = λ other. (e.refused other).reasoned.others })

pub returns-in-Some : goal.returns-in-Some
returns-in-Some c =
    let b = c.args.octets.now in
    let front = c.in_ok-front.front in
    let m = c.in_ok-apdu.ensures in
    let there = frame_there front m.value in
    let f = there.0 in
    let mark : joined_mark c.mark_of.result front.size m.mark ≡ Some c.in-Some.place = search (rules, c.in-Some.is, m.made_of.1, c.joined.ensures, m.behind) in
    let marked = subst (λ (o : Option ℕ). HasMark (SpellsFrame f) b o) mark (m.marked f c.mark_of.result there.1 c.mark_of.ensures) in
    let e : IsStrictlyRefused b (record { place = c.in-Some.place; why = NotCanonical }) = record { flaw = λ why. (f, m.spelled f there.1, marked); refused = λ other. absurd (other refl) } in
    rw c.not_canonical.ensures (record { found = tt; flaw = e.flaw; refused = λ memory other. (e.refused other).refused memory; memory = strict_memory b _ e; versions = λ other. (e.refused other).reasoned.of_version; addresses = λ other. (e.refused other).reasoned.of_address; types = λ other. (e.refused other).reasoned.of_type; windows = λ other. (e.refused other).reasoned.of_window; reasons = λ other. (e.refused other).reasoned.others })

pub returns : goal.returns
returns c =
    let b = c.args.octets.now in
    let front = c.in_ok-front.front in
    let m = c.in_ok-apdu.ensures in
    let f = value_of c.local_frame.result in
    let of : IsFrameOf front m.value f = subst (λ (a : ApduValue). IsFrameOf front a f) m.made_of.0 c.local_frame.ensures in
    let mark : joined_mark c.mark_of.result front.size m.mark ≡ None = search (rules, c.in_default.is, c.in_default.not-Some, m.made_of.1, c.joined.ensures, m.behind) in
    let least = unmarked_least None refl (subst (λ (o : Option ℕ). HasMark (SpellsFrame f) b o) mark (m.marked f c.mark_of.result of c.mark_of.ensures)) in
    record { found = least; flaw = tt; refused = tt; memory = tt; versions = tt; addresses = tt; types = tt; windows = tt; reasons = tt }
