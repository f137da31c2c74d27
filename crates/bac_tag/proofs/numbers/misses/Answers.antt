use Rattle.std.proofs.Common.{arith, ◌≤◌, ◌<◌, ◌^◌, ◌+◌, ◌-◌, ◌*◌, ◌⊎◌, ℕ}
use Rattle.std.proofs.lemmas.Bool.Decides.{nat_tests}
use Rattle.std.specs.Prelude.{nat_lt, IsTrue, ◌↔◌}
use Rattle.std.proofs.Math.Nat.{one-le-pow, pow-le-pow_right}
use Rattle.bac_tag.proofs.numbers.misses.Goals as goal

pub pow-worth-requires : goal.pow-worth-requires
pow-worth-requires c =
    let few : c.args.unread ≤ 7 = omega arith in
    let room : 256 ^ c.args.unread ≤ 256 ^ 7 = pow-le-pow_right (omega arith) few in
    omega arith

pub overflow_sub-result : goal.overflow_sub-result
overflow_sub-result c = let some : 1 ≤ 256 ^ c.args.unread = one-le-pow c.args.unread 256 (omega arith) in omega (arith, c.pow-worth.ensures)

answers : (lowest worth low high : ℕ) → 1 ≤ worth → lowest ≤ high → IsTrue (nat_lt (lowest + (worth - 1)) low) ↔ ((high < lowest) ⊎ (lowest + worth ≤ low))
answers lowest worth low high some most = grind (arith, nat_tests)

pub returns-else-lowest-high : goal.returns-else-lowest-high
returns-else-lowest-high c =
    let some : 1 ≤ 256 ^ c.args.unread = one-le-pow c.args.unread 256 (omega arith) in
    rw (← c.pow-worth.ensures) (answers (c.args.number * c.pow-worth.result) c.pow-worth.result c.args.low c.args.high (omega (arith, c.pow-worth.ensures)) c.if-lowest-high.false)
