use Rattle.std.specs.Prelude.{◌≡◌, ◌<◌, ℕ, length, slice_index}
use Rattle.std.proofs.Common.{arith}
use Rattle.bac_npdu_parts.proofs.UntypedLemmas.{behind_all}
use Rattle.bac_npdu_parts.proofs.TablesLemmas.{port_read}
use Rattle.bac_npdu_parts.proofs.messages.tables.find_port.Goals as goal

pub returns-clause-found : goal.returns-clause-found
returns-clause-found c =
    let small : (k : ℕ) → slice_index c.args.octets.now k < 256 = λ k. omega (arith, c.type_inv.octets k) in
    let cut = c.in-Some.ensures.lookup.0 in
    let long : length c.in-Some.info.now ≡ c.from-count.result = omega (arith, cut.3) in
    port_read c.args.octets.now _ _ c.in-Some.info.now c.args.place c.from-count.result c.number_at.result small (behind_all c.args.place c.args.octets.now) (behind_all 4 _) c.in-len4-up.len_at_least c.number_at.ensures c.from-count.ensures cut.2 long
