use Rattle.std.specs.Prelude.{◌<◌, ℕ, slice_index, refl}
use Rattle.std.proofs.Common.{arith}
use Rattle.std.proofs.lemmas.Result.{err_from_is_err_and}
use Rattle.bac_service.specs.Services.{value_of as service_of}
use Rattle.bac_apdu.proofs.ErrorPduLemmas.{error_short, error_refused, error_found}
use Rattle.bac_apdu.proofs.error_pdu.decode_error_pdu.Goals as goal

pub returns-in_default : goal.returns-in_default
returns-in_default g c =
    let small : (k : ℕ) → slice_index c.args.octets.now k < 256 = λ k. omega (arith, c.type_inv.octets k) in
    rw c.at.ensures (error_short c.args.octets.now small c.requires c.in_default.len_below, refl)

pub returns-in_err-service : goal.returns-in_err-service
returns-in_err-service g c =
    let small : (k : ℕ) → slice_index c.args.octets.now k < 256 = λ k. omega (arith, c.type_inv.octets k) in
    let p = err_from_is_err_and c.from_residual.result c.from_residual.ensures.1 in
    rw (p.1, p.2) (error_refused c.args.octets.now small c.requires _ c.in-len3-up.len_at_least c.in_err-service.ensures, refl)

pub returns : goal.returns
returns g c =
    let small : (k : ℕ) → slice_index c.args.octets.now k < 256 = λ k. omega (arith, c.type_inv.octets k) in
    let p = error_found c.args.octets.now small c.requires (service_of c.in_ok-service.service) c.in_ok-service.mark c.in-len3-up.len_at_least c.in_ok-service.ensures in
    record { value = _; mark = _; spelled = p.0; marked = p.1; made_of = c.visit.ensures }
