use Rattle.bac_npdu_parts.proofs.HeldLemmas.{port_held}
use Rattle.bac_npdu_parts.proofs.laws.held_port_fits.Goals as goal

pub returns : goal.returns
returns c = port_held c.args.port.now c.octets.result.now c.octets.ensures.octets c.held_number_fits.ensures c.held_octet_fits.ensures c.octets.ensures.few c.held_octets_fit.ensures
