use Rattle.bac_segment.proofs.DeskHistoryLemmas.{runs_on}
use Rattle.bac_segment.proofs.laws.desk_calls_go_on.Goals as goal

pub returns : goal.returns
returns c = runs_on
