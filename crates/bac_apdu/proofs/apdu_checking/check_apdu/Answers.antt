use Rattle.std.specs.Prelude.{◌≤◌, slice_index}
use Rattle.std.proofs.Common.{arith}
use Rattle.bac_apdu.specs.FirstOctet.{type_at}
use Rattle.bac_apdu.proofs.CarryingLemmas.{checked_short}
use Rattle.bac_apdu.proofs.ReasonLemmas.{nothing_refused, type_refused}
use Rattle.bac_apdu.proofs.StartLemmas.{short_memory, type_memory}
use Rattle.bac_apdu.proofs.apdu_checking.check_apdu.Goals as goal

pub returns-in_default : goal.returns-in_default
returns-in_default c = rw c.at.ensures (nothing_refused c.args.octets.now c.in_default.len_below, short_memory)

pub returns-in_default-2 : goal.returns-in_default-2
returns-in_default-2 c =
    let high : 8 ≤ type_at (slice_index c.args.octets.now 0) = omega arith in
    rw c.at-in_default-2.ensures (type_refused c.args.octets.now c.in-len1-up.len_at_least high, type_memory)
