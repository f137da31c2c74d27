use Rattle.bac_message.proofs.CutLemmas.{cut_again}
use Rattle.bac_message.proofs.laws.joined_frames_are_cut_again.Goals as goal

pub returns : goal.returns
returns c = cut_again c.services_have_one_value.ensures
