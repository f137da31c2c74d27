use Rattle.std.proofs.Common.{◌≡◌, sym, subst, ◌∙◌}
use Rattle.std.specs.Bool.{Decides}
use Rattle.bac_npdu_parts.specs.Ports.{same_ports}
use Rattle.bac_npdu_parts.specs.Laws.Same.{tables_decided}
use Rattle.bac_npdu_parts.proofs.messages.ports.PortsPartialEq.eq.Goals as goal

pub returns-clause-same : goal.returns-clause-same
returns-clause-same c =
    let answer : c.eq.result ≡ same_ports c.args.self.now c.args.other.now = c.eq.ensures ∙ (λ i. same_ports (c.self.view_is i) (c.other.view_is i)) in
    subst (λ r. Decides r (c.args.self.now ≡ c.args.other.now)) (sym answer) (tables_decided c.args.self.now c.args.other.now)
