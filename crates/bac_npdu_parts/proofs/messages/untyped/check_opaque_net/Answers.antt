use Rattle.bac_npdu_parts.specs.Messages.{opaque}
use Rattle.bac_npdu_parts.proofs.CheckedLemmas.{message_octets}
use Rattle.bac_npdu_parts.proofs.messages.untyped.check_opaque_net.Goals as goal

pub returns : goal.returns
returns c = message_octets (opaque (record { kind = _; vendor = _; octets = _ })) c.args.octets.now c.in_ok-find_opaque.ensures.found
