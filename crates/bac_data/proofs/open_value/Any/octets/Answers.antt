use Rattle.std.proofs.Common.{sym, subst}
use Rattle.bac_tag.specs.Spelling.{IsLeast}
use Rattle.bac_data.specs.Events.{events, SpellsEvents}
use Rattle.bac_data.specs.HeldLists.{octets_of, nodes_of}
use Rattle.bac_data.proofs.HeldLemmas.{held_least, held_depth}
use Rattle.bac_data.proofs.open_value.Any.octets.Goals as goal

pub returns-clause-least : goal.returns-clause-least
returns-clause-least c = subst (IsLeast (SpellsEvents (events c.args.self.now))) (sym c.octets.ensures) (held_least (octets_of c.self.inside.held) (nodes_of c.self.inside.held) c.args.self.now c.self.invariant.1 c.self.view_is)

pub returns-clause-depth : goal.returns-clause-depth
returns-clause-depth c = held_depth (octets_of c.self.inside.held) (nodes_of c.self.inside.held) c.args.self.now c.self.invariant.1 c.self.view_is
