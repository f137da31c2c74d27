use Rattle.std.specs.Prelude.{◌<◌, ℕ, slice_index, refl}
use Rattle.std.proofs.Common.{arith}
use Rattle.std.proofs.lemmas.Result.{err_from_is_err_and}
use Rattle.bac_service.specs.Services.{value_of as service_of}
use Rattle.bac_apdu.proofs.ComplexAckLemmas.{complex_ack_short, complex_ack_refused, complex_ack_found}
use Rattle.bac_apdu.proofs.complex_ack.decode_complex_ack.Goals as goal

pub returns-in_default : goal.returns-in_default
returns-in_default g c =
    let small : (k : ℕ) → slice_index c.args.octets.now k < 256 = λ k. omega (arith, c.type_inv.octets k) in
    rw c.at.ensures (complex_ack_short c.args.octets.now small c.requires.pdu c.requires.whole c.in_default.len_below, refl)

pub returns-in_err-service : goal.returns-in_err-service
returns-in_err-service g c =
    let small : (k : ℕ) → slice_index c.args.octets.now k < 256 = λ k. omega (arith, c.type_inv.octets k) in
    let p = err_from_is_err_and c.from_residual.result c.from_residual.ensures.1 in
    rw (p.1, p.2) (complex_ack_refused c.args.octets.now small c.requires.pdu c.requires.whole _ c.in-len3-up.len_at_least c.in_err-service.ensures, refl)

pub returns : goal.returns
returns g c =
    let small : (k : ℕ) → slice_index c.args.octets.now k < 256 = λ k. omega (arith, c.type_inv.octets k) in
    let p = complex_ack_found c.args.octets.now small c.requires.pdu c.requires.whole (service_of c.in_ok-service.service) c.in_ok-service.mark c.in-len3-up.len_at_least c.in_ok-service.ensures in
    record { value = _; mark = _; spelled = p.0; marked = p.1; made_of = c.visit.ensures }
