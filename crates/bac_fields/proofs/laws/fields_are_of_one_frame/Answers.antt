use Rattle.std.proofs.Common.{sym, ◌∙◌}
use Rattle.bac_fields.proofs.laws.fields_are_of_one_frame.Goals as goal

pub returns : goal.returns
returns c = λ octets l f g b d h j e k. c.what_fields_say_tells_the_frame.ensures f g b d h j (sym e ∙ k)
