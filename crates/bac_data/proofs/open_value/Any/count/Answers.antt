use Rattle.std.proofs.Common.{◌∙◌, arith}
use Rattle.bac_data.specs.HeldLists.{octets_of, nodes_of}
use Rattle.bac_data.proofs.EventCounts.{no_more_than_octets}
use Rattle.bac_data.proofs.HeldLemmas.{held_count}
use Rattle.bac_data.proofs.open_value.Any.count.Goals as goal

pub returns-clause-count : goal.returns-clause-count
returns-clause-count c = c.count.ensures ∙ held_count (octets_of c.self.inside.held) (nodes_of c.self.inside.held) c.args.self.now c.self.invariant.1 c.self.view_is

pub returns-clause-most : goal.returns-clause-most
returns-clause-most c = λ b p. omega (arith, returns-clause-count c, no_more_than_octets _ b p)
