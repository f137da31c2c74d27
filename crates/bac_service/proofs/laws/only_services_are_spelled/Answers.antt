use Rattle.bac_service.specs.Laws.Service.{spelled_placed, spelled_opaque}
use Rattle.bac_service.proofs.laws.only_services_are_spelled.Goals as goal

pub returns-clause-placed : goal.returns-clause-placed
returns-clause-placed c = spelled_placed

pub returns-clause-opaque : goal.returns-clause-opaque
returns-clause-opaque c = spelled_opaque
