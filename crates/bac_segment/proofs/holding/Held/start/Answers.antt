use Rattle.std.proofs.Common.{◌∙◌, ap, ℕ, List, length, arith}
use Rattle.bac_segment.proofs.HoldingLemmas.{start_within, start_end}
use Rattle.bac_segment.proofs.holding.Held.start.Goals as goal

pub octets_in-requires : goal.octets_in-requires
octets_in-requires c = rw (c.deref.ensures.value) (omega (arith, start_within c.requires.held c.args.number, c.requires.held.small))

pub returns-then-self-number : goal.returns-then-self-number
returns-then-self-number c = ap (λ (o : List ℕ). length o) c.octets.ensures ∙ start_end c.requires.held c.args.number c.if-self-number.true
