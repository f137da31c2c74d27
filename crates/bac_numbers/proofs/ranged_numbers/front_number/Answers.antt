use Rattle.std.proofs.Common.{arith}
use Rattle.bac_numbers.specs.Laws.Numbers.{number_front}
use Rattle.bac_numbers.proofs.ranged_numbers.front_number.Goals as goal

pub returns-clause-number : goal.returns-clause-number
returns-clause-number c =
    number_front c.args.octets.now c.args.size c.from_be_bytes-word.result c.from.result c.in-len4-up.len_at_least (omega (arith, c.if-size-eq0.false)) (omega (arith, c.if-size-gt4.false)) (λ i. omega (arith, c.type_inv.octets i)) c.from_be_bytes-word.ensures c.from.ensures
