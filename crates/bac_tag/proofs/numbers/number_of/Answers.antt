use Rattle.std.proofs.Common.{arith}
use Rattle.bac_tag.specs.Laws.Number.{number_step_fits}
use Rattle.bac_tag.proofs.numbers.number_of.Goals as goal

pub overflow_mul-number : goal.overflow_mul-number
overflow_mul-number c = omega (arith, number_step_fits c.args.octets.now c.loop-octet.octet-index (λ k. omega (arith, c.type_inv.octets k)) c.requires c.loop-octet-test.true)

pub overflow_add-number : goal.overflow_add-number
overflow_add-number c = omega (arith, number_step_fits c.args.octets.now c.loop-octet.octet-index (λ k. omega (arith, c.type_inv.octets k)) c.requires c.loop-octet-test.true)
