use Rattle.bac_message.proofs.CutLemmas.{cut_joined, cut_lacks}
use Rattle.bac_message.proofs.laws.frames_of_a_cut_give_the_frame.Goals as goal

pub returns-clause-joined : goal.returns-clause-joined
returns-clause-joined c = cut_joined c.services_have_one_value.ensures

pub returns-clause-lack : goal.returns-clause-lack
returns-clause-lack c = cut_lacks c.services_have_one_value.ensures
