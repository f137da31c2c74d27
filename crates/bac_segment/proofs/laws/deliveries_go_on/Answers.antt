use Rattle.bac_segment.proofs.HistoryLemmas.{delivers_on}
use Rattle.bac_segment.proofs.laws.deliveries_go_on.Goals as goal

pub returns : goal.returns
returns c = delivers_on
