use Rattle.bac_tag.specs.Octets.{Extends}
use Rattle.bac_explain.proofs.completing.completed.Given as goal

-- The octets begin with those that were given.
abbrev pub invariant-loop : goal.invariant-loop
invariant-loop l = Extends l.front l.octets.items
