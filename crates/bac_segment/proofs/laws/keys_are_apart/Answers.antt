use Rattle.bac_segment.proofs.DeskHistoryLemmas.{part_held}
use Rattle.bac_segment.proofs.laws.keys_are_apart.Goals as goal

pub returns : goal.returns
returns c = part_held
