use Rattle.std.specs.Prelude.{◌<◌, ℕ, slice_index, refl}
use Rattle.std.proofs.Common.{arith}
use Rattle.std.proofs.lemmas.Result.{err_from_is_err_and}
use Rattle.bac_npdu_parts.specs.Messages.{i_am_router, router_busy, router_available}
use Rattle.bac_npdu_parts.proofs.MessageLemmas.{nothing_refused}
use Rattle.bac_npdu_parts.proofs.NetworksLemmas.{networks_spelled, networks_refused}
use Rattle.bac_npdu_parts.proofs.message.decode_message.Goals as goal

pub returns-in_default : goal.returns-in_default
returns-in_default c = rw c.at.ensures (nothing_refused c.args.octets.now c.in_default.len_below)

pub returns-in_err-read_networks-in-1 : goal.returns-in_err-read_networks-in-1
returns-in_err-read_networks-in-1 c =
    let small : (k : ℕ) → slice_index c.args.octets.now k < 256 = λ k. omega (arith, c.type_inv.octets k) in
    let p = err_from_is_err_and c.from_residual.result c.from_residual.ensures.1 in
    rw (p.1, p.2) (networks_refused 1 refl refl (λ n. refl) i_am_router (λ ns o b e h. (tt, ((e, omega (arith, e)), h))) c.args.octets.now small c.in-len1-up.len_at_least c.in-1.is _ c.in_err-read_networks-in-1.ensures.refused)

pub returns-in_ok-read_networks-in-1 : goal.returns-in_ok-read_networks-in-1
returns-in_ok-read_networks-in-1 c =
    networks_spelled 1 refl refl (λ n. refl) i_am_router (λ ns o b e h. (tt, ((e, omega (arith, e)), h))) c.in_ok-read_networks-in-1.field-0.items c.args.octets.now c.in-len1-up.len_at_least c.in-1.is c.in_ok-read_networks-in-1.ensures.found

pub returns-in_err-read_networks-in-4 : goal.returns-in_err-read_networks-in-4
returns-in_err-read_networks-in-4 c =
    let small : (k : ℕ) → slice_index c.args.octets.now k < 256 = λ k. omega (arith, c.type_inv.octets k) in
    let p = err_from_is_err_and c.from_residual-in_err-read_networks-in-4.result c.from_residual-in_err-read_networks-in-4.ensures.1 in
    rw (p.1, p.2) (networks_refused 4 refl refl (λ n. refl) router_busy (λ ns o b e h. (tt, ((e, omega (arith, e)), h))) c.args.octets.now small c.in-len1-up.len_at_least c.in-4.is _ c.in_err-read_networks-in-4.ensures.refused)

pub returns-in_ok-read_networks-in-4 : goal.returns-in_ok-read_networks-in-4
returns-in_ok-read_networks-in-4 c =
    networks_spelled 4 refl refl (λ n. refl) router_busy (λ ns o b e h. (tt, ((e, omega (arith, e)), h))) c.in_ok-read_networks-in-4.field-0.items c.args.octets.now c.in-len1-up.len_at_least c.in-4.is c.in_ok-read_networks-in-4.ensures.found

pub returns-in_err-read_networks-in-5 : goal.returns-in_err-read_networks-in-5
returns-in_err-read_networks-in-5 c =
    let small : (k : ℕ) → slice_index c.args.octets.now k < 256 = λ k. omega (arith, c.type_inv.octets k) in
    let p = err_from_is_err_and c.from_residual-in_err-read_networks-in-5.result c.from_residual-in_err-read_networks-in-5.ensures.1 in
    rw (p.1, p.2) (networks_refused 5 refl refl (λ n. refl) router_available (λ ns o b e h. (tt, ((e, omega (arith, e)), h))) c.args.octets.now small c.in-len1-up.len_at_least c.in-5.is _ c.in_err-read_networks-in-5.ensures.refused)

pub returns-in_ok-read_networks-in-5 : goal.returns-in_ok-read_networks-in-5
returns-in_ok-read_networks-in-5 c =
    networks_spelled 5 refl refl (λ n. refl) router_available (λ ns o b e h. (tt, ((e, omega (arith, e)), h))) c.in_ok-read_networks-in-5.field-0.items c.args.octets.now c.in-len1-up.len_at_least c.in-5.is c.in_ok-read_networks-in-5.ensures.found
