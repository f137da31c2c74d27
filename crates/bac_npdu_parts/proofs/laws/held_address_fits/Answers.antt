use Rattle.bac_npdu_parts.proofs.HeldLemmas.{address_held}
use Rattle.bac_npdu_parts.proofs.laws.held_address_fits.Goals as goal

pub returns : goal.returns
returns c = address_held c.args.network c.args.address.now c.octets.result.now c.octets.ensures.octets c.held_number_fits.ensures c.octets.ensures.few c.held_octets_fit.ensures
