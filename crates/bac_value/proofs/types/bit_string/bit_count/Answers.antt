use Rattle.std.proofs.Common.{arith}
use Rattle.bac_value.specs.Laws.Bits.{least_some, least_length}
use Rattle.bac_value.proofs.types.bit_string.bit_count.Goals as goal

pub overflow_sub-result : goal.overflow_sub-result
overflow_sub-result c = least_some c.args.contents.now c.requires

pub overflow_mul-result : goal.overflow_mul-result
overflow_mul-result c = let all = least_length c.args.contents.now c.requires in omega (arith, all.2)

pub bounds-contents-0 : goal.bounds-contents-0
bounds-contents-0 c = least_some c.args.contents.now c.requires

pub overflow_sub-result-2 : goal.overflow_sub-result-2
overflow_sub-result-2 c = let all = least_length c.args.contents.now c.requires in omega (arith, all.0, c.from.ensures)

pub returns : goal.returns
returns c = let all = least_length c.args.contents.now c.requires in omega (arith, all.0, c.from.ensures)
