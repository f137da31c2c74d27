use Rattle.std.proofs.Common.{◌↔◌, ◌≡◌, IsTrue, sym, ◌∙◌}
use Rattle.std.specs.Cmp.Lexicographic.{bytes_decides}
use Rattle.bac_data.specs.HeldLists.{octets_of, nodes_of}
use Rattle.bac_data.specs.Same.{same_values}
use Rattle.bac_data.proofs.HeldLemmas.{held_least, held_elements, octets_tell}
use Rattle.bac_data.proofs.open_value.AnyPartialEq.eq.Goals as goal

both : (c : goal.After-eq) → (c.eq.result ≡ same_values c.args.self.now c.args.other.now) × (IsTrue c.eq.result ↔ (c.args.self.now ≡ c.args.other.now))
both c =
    octets_tell c.args.self.now c.args.other.now (octets_of c.self.inside.held) (octets_of c.other.inside.held) c.eq.result
    (held_least (octets_of c.self.inside.held) (nodes_of c.self.inside.held) c.args.self.now c.self.invariant.1 c.self.view_is)
    (held_least (octets_of c.other.inside.held) (nodes_of c.other.inside.held) c.args.other.now c.other.invariant.1 c.other.view_is)
    (held_elements (octets_of c.self.inside.held) (nodes_of c.self.inside.held) c.args.self.now c.self.invariant.1 c.self.view_is)
    (held_elements (octets_of c.other.inside.held) (nodes_of c.other.inside.held) c.args.other.now c.other.invariant.1 c.other.view_is) (
      λ t. sym c.octets.ensures ∙ (bytes_decides c.octets.result.now c.octets-2.result.now).0 (sym c.eq.ensures ∙ t) ∙ c.octets-2.ensures,
      λ e. c.eq.ensures ∙ (bytes_decides c.octets.result.now c.octets-2.result.now).1 (c.octets.ensures ∙ e ∙ sym c.octets-2.ensures),
    )

pub returns-clause-answer : goal.returns-clause-answer
returns-clause-answer c = (both c).0

pub returns-clause-same : goal.returns-clause-same
returns-clause-same c = (both c).1
