use Rattle.bac_service.specs.ServiceTable.{read_property}
use Rattle.bac_service.proofs.service.productions_are_well_spelled.Goals as goal

-- each production is found among the calls: the second line stands for all the others, one by one
pub returns : goal.returns
returns c read_property = search
returns c _ = search
