use Rattle.bac_message.proofs.CutLemmas.{one_cut}
use Rattle.bac_message.proofs.laws.frames_are_cut_in_one_way.Goals as goal

pub returns : goal.returns
returns c = one_cut
