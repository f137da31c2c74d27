use Rattle.bac_segment.proofs.DeskHistoryLemmas.{desk_answered}
use Rattle.bac_segment.proofs.laws.desk_answers_are_by_the_key.Goals as goal

pub returns : goal.returns
returns c = desk_answered
