use Rattle.std.specs.Prelude.{◌<◌, ℕ, slice_index, refl}
use Rattle.std.proofs.Common.{arith}
use Rattle.std.proofs.lemmas.Result.{err_from_is_err_and}
use Rattle.bac_apdu.proofs.RejectLemmas.{reject_short, reject_refused, reject_found}
use Rattle.bac_apdu.proofs.reject.decode_reject.Goals as goal

pub returns-in_default : goal.returns-in_default
returns-in_default g c =
    let small : (k : ℕ) → slice_index c.args.octets.now k < 256 = λ k. omega (arith, c.type_inv.octets k) in
    rw c.at.ensures (reject_short c.args.octets.now small c.requires c.in_default.len_below, refl)

pub returns-in_err-mark : goal.returns-in_err-mark
returns-in_err-mark g c =
    let small : (k : ℕ) → slice_index c.args.octets.now k < 256 = λ k. omega (arith, c.type_inv.octets k) in
    let p = err_from_is_err_and c.from_residual.result c.from_residual.ensures.1 in
    rw (p.1, p.2) (reject_refused c.args.octets.now small c.requires _ c.in-len3-up.len_at_least c.in_err-mark.ensures, refl)

pub returns : goal.returns
returns g c =
    let small : (k : ℕ) → slice_index c.args.octets.now k < 256 = λ k. omega (arith, c.type_inv.octets k) in
    let p = reject_found c.args.octets.now small c.requires c.in_ok-mark.mark c.in-len3-up.len_at_least c.in_ok-mark.ensures in
    record { value = _; mark = _; spelled = p.0; marked = p.1; made_of = c.visit.ensures }
