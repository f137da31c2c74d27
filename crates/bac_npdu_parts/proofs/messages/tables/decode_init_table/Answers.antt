use Rattle.std.specs.Prelude.{◌<◌, ℕ, slice_index, refl}
use Rattle.std.proofs.Common.{arith}
use Rattle.std.proofs.lemmas.Result.{err_from_is_err_and}
use Rattle.bac_npdu_parts.specs.Messages.{init_table}
use Rattle.bac_npdu_parts.proofs.TablesLemmas.{table_refused}
use Rattle.bac_npdu_parts.proofs.messages.tables.decode_init_table.Goals as goal

pub returns-in_err-read_ports : goal.returns-in_err-read_ports
returns-in_err-read_ports c =
    let small : (k : ℕ) → slice_index c.args.octets.now k < 256 = λ k. omega (arith, c.type_inv.octets k) in
    let p = err_from_is_err_and c.from_residual.result c.from_residual.ensures.1 in
    rw (p.1, p.2) (table_refused 6 refl refl init_table (λ ps o b e h. (tt, ((e, omega (arith, e)), h))) c.args.octets.now small c.requires.0 c.requires.1 refl (λ e s. absurd (omega (arith, s))) _ c.in_err-read_ports.ensures.refused)
