use Rattle.bac_tag.proofs.ShortLemmas.{short_close, close_begins}
use Rattle.bac_tag.proofs.short.is_short_closing.Goals as goal

pub returns : goal.returns
returns c = (λ h. short_close c.args.number c.args.octets.now c.requires (c.begins_tag.ensures.0 h), λ b. c.begins_tag.ensures.1 (close_begins c.args.number c.args.octets.now b))
