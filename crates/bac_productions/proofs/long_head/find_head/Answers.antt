use Rattle.std.proofs.Common.{arith}
use Rattle.bac_productions.proofs.LongHeadLemmas.{taken_short}
use Rattle.bac_productions.proofs.long_head.find_head.Goals as goal

pub new-requires : goal.new-requires
new-requires c = omega (arith, taken_short c.args.context c.args.number c.in_ok-len.len c.in_ok-len.taken c.args.octets.now c.in_ok-len.ensures)
