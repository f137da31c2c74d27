use Rattle.bac_npdu_parts.proofs.SameLemmas.{apdu_bodies_tell, message_bodies_tell}
use Rattle.bac_npdu_parts.proofs.frame.BodyPartialEq.eq.Goals as goal

pub returns-in-Apdu-Apdu-clause-same : goal.returns-in-Apdu-Apdu-clause-same
returns-in-Apdu-Apdu-clause-same c =
    rw c.in-Apdu-Apdu.is-0 (rw c.in-Apdu-Apdu.is-1 (apdu_bodies_tell c.in-Apdu-Apdu.one c.in-Apdu-Apdu.other c.eq.result c.eq.ensures.same))

pub returns-in-Net-Net-clause-same : goal.returns-in-Net-Net-clause-same
returns-in-Net-Net-clause-same c =
    rw c.in-Net-Net.is-0 (rw c.in-Net-Net.is-1 (message_bodies_tell c.in-Net-Net.one c.in-Net-Net.other c.eq-in-Net-Net.result c.eq-in-Net-Net.ensures))
