use Rattle.bac_service.specs.Laws.SubscribeCov.{subscribe_cov_alike}
use Rattle.bac_service.proofs.service.subscribe_cov.SubscribeCovRecord.from_parts.Goals as goal

pub returns : goal.returns
returns c = rw (c.number.ensures, c.bit_of.ensures, c.bare_number.ensures, c.bare.ensures) (subscribe_cov_alike _)
