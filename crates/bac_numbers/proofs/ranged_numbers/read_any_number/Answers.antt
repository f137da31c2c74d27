use Rattle.std.proofs.Common.{arith}
use Rattle.bac_tag.specs.Laws.Octets.{octets_at}
use Rattle.bac_numbers.specs.Laws.Numbers.{some_octets, low_fits, misses_none, begun_whole}
use Rattle.bac_numbers.proofs.ranged_numbers.read_any_number.Goals as goal

pub number_within-requires-clause-room : goal.number_within-requires-clause-room
number_within-requires-clause-room c = low_fits c.args.low _ c.requires.room (some_octets c.args.octets.now c.if-is_empty.ensures, omega arith)

pub returns-in-Err-clause-none : goal.returns-in-Err-clause-none
returns-in-Err-clause-none c = λ n. misses_none _ _ n c.args.octets.now c.in-Err.place c.in-Err.ensures.err

pub returns-in-Ok-clause-found : goal.returns-in-Ok-clause-found
returns-in-Ok-clause-found c =
    rw c.in-Ok.ensures.number (begun_whole c.args.low c.args.high c.args.octets.now (octets_at _ (λ k. omega (arith, c.type_inv.octets k))) (some_octets c.args.octets.now c.if-is_empty.ensures, omega arith) c.in-Ok.ensures.ok)
