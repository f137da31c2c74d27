use Rattle.bac_segment.proofs.DeskHistoryLemmas.{closing_tells}
use Rattle.bac_segment.proofs.laws.closing_tells_what_was_held.Goals as goal

pub returns : goal.returns
returns c = closing_tells
