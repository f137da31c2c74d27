use Rattle.std.specs.Prelude.{◌<◌, ℕ, List, slice_index, refl}
use Rattle.std.proofs.Common.{sym, subst, arith}
use Rattle.bac_service.specs.declared.kind.Kind.TheVariants.{Confirmed}
use Rattle.bac_apdu.specs.Apdus.{confirmed_request}
use Rattle.bac_apdu.specs.Decoded.{IsBehindChecked}
use Rattle.bac_apdu.proofs.CarryingLemmas.{checked_behind}
use Rattle.bac_apdu.proofs.ConfirmedRequestLemmas.{SaysHead, least_at, confirmed_request_short, confirmed_request_refused, confirmed_request_found}
use Rattle.bac_apdu.proofs.StartLemmas.{short_memory}
use Rattle.bac_apdu.proofs.confirmed_request.check_confirmed_request.Goals as goal

pub returns-in_default : goal.returns-in_default
returns-in_default c =
    let small : (k : ℕ) → slice_index c.args.octets.now k < 256 = λ k. omega (arith, c.type_inv.octets k) in
    rw c.at.ensures (confirmed_request_short c.args.octets.now small c.requires.pdu c.requires.whole c.in_default.len_below, short_memory)

pub returns : goal.returns
returns c =
    let b = c.args.octets.now in
    let small : (k : ℕ) → slice_index b k < 256 = λ k. omega (arith, c.type_inv.octets k) in
    let long = c.in-len4-up.len_at_least in
    let head = c.read_head.result.0 in
    let e = c.read_head.ensures in
    let says : SaysHead b head = record { sa = e.sa; segs = sym e.segs; resp = sym e.resp; invoke = sym e.invoke } in
    let least = least_at b head c.read_head.result.1 says e.least in
    checked_behind Confirmed (slice_index b 3) b _ c.check_behind.result (subst (λ (l : List ℕ). IsBehindChecked Confirmed (slice_index b 3) b l c.check_behind.result) least c.check_behind.ensures)
    (λ service mark behind. (confirmed_request head service, confirmed_request_found b small c.requires.pdu c.requires.whole head _ _ says refl refl service mark long behind))
    (λ refusal behind. confirmed_request_refused b small c.requires.pdu c.requires.whole _ _ refusal long behind)
