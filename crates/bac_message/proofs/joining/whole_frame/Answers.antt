use Rattle.bac_service.specs.Services.{value_of as service_of}
use Rattle.bac_apdu.specs.Apdus.{value_of as apdu_value}
use Rattle.bac_npdu_parts.specs.Frames.{value_of}
use Rattle.bac_segment.specs.Deliveries.{delivery}
use Rattle.bac_message.proofs.JoiningLemmas.{has_content, head_is}
use Rattle.bac_message.proofs.joining.whole_frame.Goals as goal

pub returns-in-Ok-clause-ok : goal.returns-in-Ok-clause-ok
returns-in-Ok-clause-ok c =
    has_content (value_of c.args.frame.now) (value_of c.in-Ok.whole) (delivery c.args.segment.now) c.head.result (apdu_value c.apdu_of.result) (service_of c.in_ok-service.service) c.args.octets.now c.requires c.in_ok-service.ensures.ok c.in-Ok.ensures.value
    (head_is (value_of c.args.frame.now) c.head.result c.head.ensures) (c.apdu_of.ensures c.head.result)
