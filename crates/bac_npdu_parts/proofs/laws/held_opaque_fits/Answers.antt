use Rattle.bac_npdu_parts.proofs.HeldLemmas.{opaque_held}
use Rattle.bac_npdu_parts.proofs.laws.held_opaque_fits.Goals as goal

pub returns-clause-parts : goal.returns-clause-parts
returns-clause-parts c =
    opaque_held c.args.message.now c.kind.result c.vendor.result c.octets.result.now c.kind.ensures.kind c.vendor.ensures.vendor c.octets.ensures c.held_octet_fits.ensures c.held_network_fits.ensures c.held_octets_fit.ensures
