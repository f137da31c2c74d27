use Rattle.std.proofs.Common.{ℕ, List, length, ap, ◌∙◌, arith}
use Rattle.bac_segment.proofs.HoldingLemmas.{start_end, free_behind}
use Rattle.bac_segment.proofs.holding.Held.keep.Goals as goal

pub judge_free-requires-clause-free : goal.judge_free-requires-clause-free
judge_free-requires-clause-free c = free_behind c.requires c.from-number.result (omega (arith, c.if-number-self.false))

pub add-requires-clause-start : goal.add-requires-clause-start
add-requires-clause-start c = ap (λ (o : List ℕ). length o) c.octets.ensures ∙ start_end c.requires c.from-number.result (omega (arith, c.if-number-self.false))
