use Rattle.bac_npdu.proofs.MeaningLemmas.{meaning_told}
use Rattle.bac_npdu.proofs.laws.canonical_octets_tell_the_meaning.Goals as goal

pub returns : goal.returns
returns c = meaning_told c.frames_have_one_value.ensures
