use Rattle.std.specs.Prelude.{◌<◌, ℕ, slice_index, refl}
use Rattle.std.proofs.Common.{arith}
use Rattle.std.proofs.lemmas.Result.{err_from_is_err_and}
use Rattle.bac_npdu_parts.proofs.CheckedLemmas.{even_octets, half_no_message}
use Rattle.bac_npdu_parts.proofs.messages.networks.check_networks.Goals as goal

pub returns-in_err-octets_of_networks : goal.returns-in_err-octets_of_networks
returns-in_err-octets_of_networks c =
    let small : (k : ℕ) → slice_index c.args.octets.now k < 256 = λ k. omega (arith, c.type_inv.octets k) in
    let p = err_from_is_err_and c.from_residual.result c.from_residual.ensures.1 in
    rw (p.1, p.2) (half_no_message c.args.octets.now small c.requires.some _ c.requires.kind refl _ c.in_err-octets_of_networks.ensures.refused)

pub returns : goal.returns
returns c =
    let small : (k : ℕ) → slice_index c.args.octets.now k < 256 = λ k. omega (arith, c.type_inv.octets k) in
    let e = c.in_ok-octets_of_networks.ensures in
    even_octets c.args.octets.now small c.requires.some _ c.requires.kind refl _ e.found e.even
