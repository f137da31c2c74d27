use Rattle.std.proofs.Common.{arith}
use Rattle.bac_service.specs.Laws.Service.{octets_held}
use Rattle.bac_service.specs.Laws.Checked.{marked_opaque}
use Rattle.bac_service.proofs.named.check_opaque.Goals as goal

pub returns : goal.returns
returns c = marked_opaque c.args.kind c.args.choice c.args.octets.now (omega arith) c.requires (octets_held c.args.octets.now (λ k lt. omega (arith, c.type_inv.octets k)))
