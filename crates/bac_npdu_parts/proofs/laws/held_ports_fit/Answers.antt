use Rattle.bac_npdu_parts.proofs.HeldLemmas.{ports_next}
use Rattle.bac_npdu_parts.proofs.laws.held_ports_fit.Goals as goal

pub loop-port-preserved : goal.loop-port-preserved
loop-port-preserved c = ports_next c.list-list.result.now c.loop-port.port-index c.port-item.result c.port-item.is c.loop-port-test.true c.loop-port.invariant c.held_port_fits.ensures
