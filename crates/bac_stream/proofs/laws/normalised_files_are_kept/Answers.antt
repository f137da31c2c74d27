use Rattle.bac_stream.proofs.KeptLemmas.{kept}
use Rattle.bac_stream.proofs.laws.normalised_files_are_kept.Goals as goal

pub returns : goal.returns
returns c = kept c.frames_have_one_value.ensures
