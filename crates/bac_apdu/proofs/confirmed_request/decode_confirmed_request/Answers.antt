use Rattle.std.specs.Prelude.{◌<◌, ℕ, List, slice_index, refl}
use Rattle.std.proofs.Common.{sym, subst, arith}
use Rattle.std.proofs.lemmas.Result.{err_from_is_err_and}
use Rattle.bac_service.specs.declared.kind.Kind.TheVariants.{Confirmed}
use Rattle.bac_service.specs.Services.{value_of as service_of}
use Rattle.bac_apdu.specs.Decoded.{IsServiceBehind, IsRefusedBehind}
use Rattle.bac_apdu.proofs.ConfirmedRequestLemmas.{SaysHead, least_at, confirmed_request_short, confirmed_request_refused, confirmed_request_found}
use Rattle.bac_apdu.proofs.confirmed_request.decode_confirmed_request.Goals as goal

pub returns-in_default : goal.returns-in_default
returns-in_default g c =
    let small : (k : ℕ) → slice_index c.args.octets.now k < 256 = λ k. omega (arith, c.type_inv.octets k) in
    rw c.at.ensures (confirmed_request_short c.args.octets.now small c.requires.pdu c.requires.whole c.in_default.len_below, refl)

pub returns-in_err-service : goal.returns-in_err-service
returns-in_err-service g c =
    let b = c.args.octets.now in
    let small : (k : ℕ) → slice_index b k < 256 = λ k. omega (arith, c.type_inv.octets k) in
    let p = err_from_is_err_and c.from_residual.result c.from_residual.ensures.1 in
    let e = c.read_head-head.ensures in
    let says : SaysHead b c.read_head-head.result.0 = record { sa = e.sa; segs = sym e.segs; resp = sym e.resp; invoke = sym e.invoke } in
    let least = least_at b c.read_head-head.result.0 c.read_head-head.result.1 says e.least in
    rw (p.1, p.2) (confirmed_request_refused b small c.requires.pdu c.requires.whole _ _ _ c.in-len4-up.len_at_least (subst (λ (l : List ℕ). IsRefusedBehind Confirmed (slice_index b 3) b l c.in_err-service.field-0.0) least c.in_err-service.ensures), refl)

pub returns : goal.returns
returns g c =
    let b = c.args.octets.now in
    let small : (k : ℕ) → slice_index b k < 256 = λ k. omega (arith, c.type_inv.octets k) in
    let head = c.read_head-head.result.0 in
    let e = c.read_head-head.ensures in
    let says : SaysHead b head = record { sa = e.sa; segs = sym e.segs; resp = sym e.resp; invoke = sym e.invoke } in
    let least = least_at b head c.read_head-head.result.1 says e.least in
    let service = service_of c.in_ok-service.service in
    let behind = subst (λ (l : List ℕ). IsServiceBehind Confirmed (slice_index b 3) b l service c.in_ok-service.mark) least c.in_ok-service.ensures in
    let p = confirmed_request_found b small c.requires.pdu c.requires.whole head _ _ says refl refl service c.in_ok-service.mark c.in-len4-up.len_at_least behind in
    record { value = _; mark = _; spelled = p.0; marked = p.1; made_of = c.visit.ensures }
