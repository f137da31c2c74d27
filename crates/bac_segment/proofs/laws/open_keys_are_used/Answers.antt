use Rattle.bac_segment.proofs.DeskHistoryLemmas.{desk_used}
use Rattle.bac_segment.proofs.laws.open_keys_are_used.Goals as goal

pub returns : goal.returns
returns c = desk_used
