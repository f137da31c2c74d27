use Rattle.std.specs.Prelude.{◌<◌, ℕ, slice_index}
use Rattle.std.proofs.Common.{sym, arith}
use Rattle.bac_npdu_parts.proofs.NetworksLemmas.{networks_step}
use Rattle.bac_npdu_parts.proofs.messages.networks.read_networks.Goals as goal

pub loop-index-preserved : goal.loop-index-preserved
loop-index-preserved c =
    let small : (k : ℕ) → slice_index c.args.octets.now k < 256 = λ k. omega (arith, c.type_inv.octets k) in
    let b = c.args.octets.now in
    let step = networks_step c.loop-index.networks.items c.number_at.result c.loop-index.index b _ small (sym c.in_ok-data.ensures.found) c.loop-index-test.true c.number_at.ensures c.loop-index.invariant in
    rw (c.push.ensures.items, c.if-is_err.ensures.negation) step
