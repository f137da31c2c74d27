use Rattle.bac_npdu_parts.specs.Messages.{message_value}
use Rattle.bac_npdu_parts.proofs.HeldLemmas.{message_held}
use Rattle.bac_npdu_parts.proofs.laws.held_messages_have_canonical_octets.Goals as goal

pub returns : goal.returns
returns c = message_held (message_value c.args.message.now) c.held_message_fits.ensures.formed c.held_message_fits.ensures.parts
