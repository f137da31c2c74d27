use Rattle.std.specs.Prelude.{◌<◌, ℕ, Some, slice_index, refl}
use Rattle.std.proofs.Common.{arith}
use Rattle.std.proofs.lemmas.Result.{err_from_is_err_and}
use Rattle.bac_npdu_parts.specs.Messages.{init_table_ack}
use Rattle.bac_npdu_parts.proofs.TablesLemmas.{table_spelled, no_table_refused}
use Rattle.bac_npdu_parts.proofs.CheckedLemmas.{message_octets, no_message, no_table_why, ack_alone}
use Rattle.bac_npdu_parts.proofs.messages.tables.check_init_table_ack.Goals as goal

pub returns-then-octets-eq1 : goal.returns-then-octets-eq1
returns-then-octets-eq1 c = ack_alone c.args.octets.now c.requires c.if-octets-eq1.true

pub returns-in_err-count_ports : goal.returns-in_err-count_ports
returns-in_err-count_ports c =
    let small : (k : ℕ) → slice_index c.args.octets.now k < 256 = λ k. omega (arith, c.type_inv.octets k) in
    let p = err_from_is_err_and c.from_residual.result c.from_residual.ensures.1 in
    let e = c.in_err-count_ports.ensures.refused in
    rw (p.1, p.2) (no_message c.args.octets.now _ (no_table_refused 7 refl refl (λ ps. init_table_ack (Some ps)) (λ ps o b e h. (tt, ((e, omega (arith, e)), h))) c.args.octets.now small c.requires.0 c.requires.1 (λ e s. c.if-octets-eq1.false e) _ e) (no_table_why c.args.octets.now _ e))

pub returns : goal.returns
returns c =
    let t = c.in_ok-count_ports.ensures.found in
    message_octets (init_table_ack (Some t.ports)) c.args.octets.now (table_spelled 7 refl refl (λ ps. init_table_ack (Some ps)) (λ ps o b e h. (tt, ((e, omega (arith, e)), h))) t.ports c.args.octets.now c.requires.0 c.requires.1 t.spelled)
