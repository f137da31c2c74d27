use Rattle.std.specs.Prelude.{◌≤◌, ◌<◌, ◌^◌, length}
use Rattle.std.specs.Fmt.{decimal}
use Rattle.std.proofs.Common.{arith}
use Rattle.bac_tool.proofs.ErrorLemmas.{ends_at, few_digits, one_digit_behind, one_longer}
use Rattle.bac_tool.proofs.error_lines.+put_long_decimal.Goals as goal

pub returns-then-number-clause-end : goal.returns-then-number-clause-end
returns-then-number-clause-end m c = ends_at c.put_decimal.new.room c.args.room.now (decimal c.args.number) c.args.at c.put_decimal.result c.put_decimal.ensures.digits (omega arith) (omega arith)

pub bounds-room-end : goal.bounds-room-end
bounds-room-end m c =
    let large : 10 ≤ c.args.number = omega arith in
    let small : c.args.number < 2 ^ 128 = omega arith in
    omega (arith, c.put_long_decimal-end.ensures.end, one_longer c.args.number small large, few_digits c.args.number small)

pub returns-clause-digits : goal.returns-clause-digits
returns-clause-digits m c =
    let large : 10 ≤ c.args.number = omega arith in
    let small : c.args.number < 2 ^ 128 = omega arith in
    let below : c.put_long_decimal-end.result < length c.put_long_decimal-end.new.room = omega (arith, c.put_long_decimal-end.ensures.end, one_longer c.args.number small large, few_digits c.args.number small) in
    one_digit_behind c.put_long_decimal-end.new.room c.args.room.now c.args.at c.put_long_decimal-end.result c.args.number small large below c.put_long_decimal-end.ensures.digits

pub returns-clause-end : goal.returns-clause-end
returns-clause-end m c =
    let large : 10 ≤ c.args.number = omega arith in
    let small : c.args.number < 2 ^ 128 = omega arith in
    omega (arith, c.put_long_decimal-end.ensures.end, one_longer c.args.number small large)

pub returns-clause-most : goal.returns-clause-most
returns-clause-most m c =
    let large : 10 ≤ c.args.number = omega arith in
    let small : c.args.number < 2 ^ 128 = omega arith in
    omega (arith, c.put_long_decimal-end.ensures.end, one_longer c.args.number small large, few_digits c.args.number small)
