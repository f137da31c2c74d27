use Rattle.bac_npdu.proofs.MeaningLemmas.{normal_once}
use Rattle.bac_npdu.proofs.laws.normalised_twice_is_once.Goals as goal

pub returns : goal.returns
returns c = normal_once c.frames_have_one_value.ensures
