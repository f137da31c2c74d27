use Rattle.std.proofs.Common.{arith, take}
use Rattle.bac_record.proofs.DigitLemmas.{word_step}
use Rattle.bac_record.proofs.digits.put_word.Goals as goal

pub loop-index-preserved : goal.loop-index-preserved
loop-index-preserved g c =
    word_step (take c.args.at c.args.room.now) c.loop-index.room c.args.word.now c.args.at c.loop-index.index (omega arith) (omega arith) c.loop-index.invariant
