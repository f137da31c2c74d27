use Rattle.bac_service.specs.Laws.Service.{services_least}
use Rattle.bac_service.proofs.laws.services_have_canonical_octets.Goals as goal

pub returns : goal.returns
returns c = services_least (λ production. (c.productions_are_well_spelled.ensures production).least)
