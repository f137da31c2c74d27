use Rattle.std.proofs.Common.{arith}
use Rattle.bac_value.specs.Laws.Bits.{bits_lengths, least_lone, least_already, differs_last}
use Rattle.bac_value.proofs.types.bit_string.mark_unused.Goals as goal
use Rattle.bac_value.proofs.types.bit_string.mark_unused.Goals.{then-last-eq0-via-then-last-eq0, then-last-eq0-via-else-last-eq0+then-octets-last}

pub returns-then-last-eq0-clause-none : goal.returns-then-last-eq0-clause-none
returns-then-last-eq0-clause-none c = λ bits h.
    let some = (bits_lengths bits c.args.octets.now h).0 in
    elim c.then-last-eq0.branch [
      | then-last-eq0-via-then-last-eq0 w ↦ least_lone bits c.args.octets.now h (omega (arith, some, w.if-last-eq0.true))
      | then-last-eq0-via-else-last-eq0+then-octets-last w ↦ least_already bits c.args.octets.now w.cleared.result h (omega (arith, some, w.if-last-eq0.false)) w.cleared.ensures w.if-octets-last.true
    ]

pub returns-clause-some : goal.returns-clause-some
returns-clause-some c = λ bits h.
    let some = (bits_lengths bits c.args.octets.now h).0 in
    differs_last bits c.args.octets.now c.cleared.result h (omega (arith, some, c.if-last-eq0.false)) c.cleared.ensures c.if-octets-last.false
