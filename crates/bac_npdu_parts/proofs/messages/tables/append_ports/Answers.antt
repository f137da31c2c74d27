use Rattle.std.specs.Prelude.{List, ◌∷◌, ◌++◌, ℕ, take, length}
use Rattle.std.proofs.Common.{ap, ◌∙◌}
use Rattle.bac_tag.specs.HeadOctets.{least_head}
use Rattle.bac_npdu_parts.specs.Messages.{ports_of}
use Rattle.bac_npdu_parts.proofs.WrittenLemmas.{one_behind, port_next}
use Rattle.bac_npdu_parts.proofs.messages.tables.append_ports.Goals as goal

pub loop-port-preserved : goal.loop-port-preserved
loop-port-preserved c =
    let old = c.args.out.now.items in
    let ports = c.list-list.result.now in
    let i = c.loop-port.port-index in
    one_behind old (length ports ∷ least_head (ports_of (take i ports))) _ c.loop-port.invariant c.in_ok-append_port.ensures.written
    ∙ ap (λ (l : List ℕ). old ++ length ports ∷ l) (port_next ports i c.port-item.result c.port-item.is c.loop-port-test.true)
