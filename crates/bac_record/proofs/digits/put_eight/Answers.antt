use Rattle.std.proofs.Common.{arith, ◌+◌, take}
use Rattle.bac_record.proofs.DigitLemmas.{four_behind}
use Rattle.bac_record.proofs.digits.put_eight.Goals as goal

pub returns-clause-digits : goal.returns-clause-digits
returns-clause-digits c =
    four_behind (take c.args.at c.args.room.now) (take c.put_front-behind.result c.put_front-behind.new.room) (take (c.put_front-behind.result + 4) c.put_four.new.room) c.args.number (omega arith) (omega arith) c.put_front-behind.ensures.digits c.put_four.ensures
