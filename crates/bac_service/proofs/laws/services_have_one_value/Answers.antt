use Rattle.bac_service.specs.Laws.Service.{services_once}
use Rattle.bac_service.proofs.laws.services_have_one_value.Goals as goal

pub returns : goal.returns
returns c = services_once (λ production. (c.productions_are_well_spelled.ensures production).once)
