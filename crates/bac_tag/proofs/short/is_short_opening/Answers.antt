use Rattle.bac_tag.proofs.ShortLemmas.{short_open, open_begins}
use Rattle.bac_tag.proofs.short.is_short_opening.Goals as goal

pub returns : goal.returns
returns c = (λ h. short_open c.args.number c.args.octets.now c.requires (c.begins_tag.ensures.0 h), λ b. c.begins_tag.ensures.1 (open_begins c.args.number c.args.octets.now b))
