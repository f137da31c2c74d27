use Rattle.std.specs.Prelude.{◌<◌, ℕ, slice_index}
use Rattle.std.proofs.Common.{arith}
use Rattle.bac_service.specs.declared.kind.Kind.TheVariants.{Unconfirmed}
use Rattle.bac_apdu.specs.Apdus.{unconfirmed_request}
use Rattle.bac_apdu.proofs.CarryingLemmas.{checked_behind}
use Rattle.bac_apdu.proofs.UnconfirmedRequestLemmas.{unconfirmed_request_short, unconfirmed_request_refused, unconfirmed_request_found}
use Rattle.bac_apdu.proofs.StartLemmas.{short_memory}
use Rattle.bac_apdu.proofs.unconfirmed_request.check_unconfirmed_request.Goals as goal

pub returns-in_default : goal.returns-in_default
returns-in_default c =
    let small : (k : ℕ) → slice_index c.args.octets.now k < 256 = λ k. omega (arith, c.type_inv.octets k) in
    rw c.at.ensures (unconfirmed_request_short c.args.octets.now small c.requires c.in_default.len_below, short_memory)

pub returns : goal.returns
returns c =
    let b = c.args.octets.now in
    let small : (k : ℕ) → slice_index b k < 256 = λ k. omega (arith, c.type_inv.octets k) in
    let long = c.in-len2-up.len_at_least in
    checked_behind Unconfirmed (slice_index b 1) b _ c.check_behind.result c.check_behind.ensures
    (λ service mark behind. (unconfirmed_request service, unconfirmed_request_found b small c.requires service mark long behind))
    (λ refusal behind. unconfirmed_request_refused b small c.requires refusal long behind)
