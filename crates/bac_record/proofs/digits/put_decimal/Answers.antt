use Rattle.std.proofs.Common.{arith, ℕ, List, ◌++◌, take, ap, ◌∙◌}
use Rattle.std.proofs.lemmas.List.{take_more_set}
use Rattle.bac_record.proofs.DigitLemmas.{one_digit}
use Rattle.bac_record.proofs.digits.put_decimal.Goals as goal

pub returns-then-number-lt10-clause-digits : goal.returns-then-number-lt10-clause-digits
returns-then-number-lt10-clause-digits c =
    take_more_set c.args.room.now c.args.at c.digit.result (omega arith)
    ∙ ap (λ (l : List ℕ). take c.args.at c.args.room.now ++ l) (one_digit c.args.number c.digit.result (omega arith) c.digit.ensures)
