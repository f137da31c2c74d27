use Rattle.std.proofs.Common.{arith, ℕ, ◌≡◌, ◌+◌, take, ap, ◌∙◌}
use Rattle.bac_record.proofs.DigitLemmas.{eight_behind}
use Rattle.bac_record.proofs.digits.put_digits.Goals as goal

pub returns-clause-digits : goal.returns-clause-digits
returns-clause-digits c =
    let end : c.put_twelve-behind.result + 8 ≡ c.put_twelve-behind.result + 4 + 4 = omega arith in
    ap (λ (k : ℕ). take k c.put_four-2.new.room) end
    ∙ eight_behind (take c.args.at c.args.room.now) (take c.put_twelve-behind.result c.put_twelve-behind.new.room) (take (c.put_twelve-behind.result + 4) c.put_four.new.room)
    (take (c.put_twelve-behind.result + 4 + 4) c.put_four-2.new.room) c.args.number (omega arith) (omega arith) c.put_twelve-behind.ensures.digits c.put_four.ensures c.put_four-2.ensures
