use Rattle.std.proofs.Common.{arith}
use Rattle.bac_npdu_parts.proofs.HeldLemmas.{networks_held}
use Rattle.bac_npdu_parts.proofs.laws.held_networks_fit.Goals as goal

pub returns : goal.returns
returns c = networks_held c.args.networks.now (λ k lt. omega (arith, c.type_inv.networks k))
