use Rattle.std.specs.Prelude.{◌<◌, ℕ, Some, length, slice_index, refl}
use Rattle.std.proofs.Common.{ne_eqb, arith}
use Rattle.std.proofs.lemmas.Result.{err_from_is_err_and}
use Rattle.bac_npdu_parts.specs.Messages.{init_table_ack}
use Rattle.bac_npdu_parts.proofs.TablesLemmas.{table_refused}
use Rattle.bac_npdu_parts.proofs.messages.tables.decode_init_table_ack.Goals as goal

pub returns-in_err-read_ports : goal.returns-in_err-read_ports
returns-in_err-read_ports c =
    let small : (k : ℕ) → slice_index c.args.octets.now k < 256 = λ k. omega (arith, c.type_inv.octets k) in
    let p = err_from_is_err_and c.from_residual.result c.from_residual.ensures.1 in
    rw (p.1, p.2) (table_refused 7 refl refl (λ ps. init_table_ack (Some ps)) (λ ps o b e h. (tt, ((e, omega (arith, e)), h))) c.args.octets.now small c.requires.0 c.requires.1 (ne_eqb (length c.args.octets.now) 1 c.if-octets-eq1.false) (λ e s. c.if-octets-eq1.false e) _ c.in_err-read_ports.ensures.refused)
