use Rattle.std.specs.Prelude.{◌<◌, ℕ, slice_index}
use Rattle.std.proofs.Common.{arith}
use Rattle.bac_npdu_parts.proofs.CheckedLemmas.{who_alone, who_checked}
use Rattle.bac_npdu_parts.proofs.messages.networks.check_who_is_router.Goals as goal

pub returns-then-octets-eq1-clause-checked : goal.returns-then-octets-eq1-clause-checked
returns-then-octets-eq1-clause-checked c = who_alone c.args.octets.now c.requires c.if-octets-eq1.true

pub returns-clause-checked : goal.returns-clause-checked
returns-clause-checked c =
    let small : (k : ℕ) → slice_index c.args.octets.now k < 256 = λ k. omega (arith, c.type_inv.octets k) in
    who_checked c.args.octets.now small c.requires c.if-octets-eq1.false c.sized.result c.sized.ensures
