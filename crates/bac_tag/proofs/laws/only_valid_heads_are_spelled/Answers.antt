use Rattle.bac_tag.proofs.HeadLenLemmas.{fits_spelled}
use Rattle.bac_tag.proofs.laws.only_valid_heads_are_spelled.Goals as goal

pub returns : goal.returns
returns c = λ head b h. (h.valid, fits_spelled head b h)
