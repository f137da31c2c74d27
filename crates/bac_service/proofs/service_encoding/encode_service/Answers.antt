use Rattle.bac_service.specs.Laws.Service.{appended_to_none}
use Rattle.bac_service.proofs.service_encoding.encode_service.Goals as goal

pub returns : goal.returns
returns c = appended_to_none c.in_ok-out.ensures.items c.in_ok-append_service.ensures.written
