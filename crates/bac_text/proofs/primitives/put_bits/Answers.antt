use Rattle.std.proofs.Common.{arith, take}
use Rattle.bac_text.proofs.TextLemmas.{bits_step}
use Rattle.bac_text.proofs.primitives.put_bits.Goals as goal

pub loop-place-preserved : goal.loop-place-preserved
loop-place-preserved c =
    bits_step (take c.args.at c.args.room.now) c.loop-place.room c.args.packed.now c.args.at c.loop-place.place c.bit_digit.result (omega arith) c.bit_digit.ensures c.loop-place.invariant
