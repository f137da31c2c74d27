use Rattle.std.proofs.Common.{◌≡◌}
use Rattle.bac_explain.proofs.completing.add_octet.Given as goal

-- The octets are as they were.
abbrev pub invariant-loop-turn : goal.invariant-loop-turn
invariant-loop-turn l = l.octets.items ≡ l.fn.octets.items
