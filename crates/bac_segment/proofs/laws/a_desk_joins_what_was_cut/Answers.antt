use Rattle.bac_segment.proofs.DeskHistoryLemmas.{desk_joined, desk_good, desk_completed}
use Rattle.bac_segment.proofs.laws.a_desk_joins_what_was_cut.Goals as goal

pub returns-clause-joined : goal.returns-clause-joined
returns-clause-joined c = λ plan octets segments key calls desk fine cut among h. (desk_joined plan octets segments key calls desk fine cut among h).0

pub returns-clause-or_none : goal.returns-clause-or_none
returns-clause-or_none c = λ plan octets segments key calls desk fine cut among h. (desk_joined plan octets segments key calls desk fine cut among h).1

pub returns-clause-answers : goal.returns-clause-answers
returns-clause-answers c = desk_good

pub returns-clause-last : goal.returns-clause-last
returns-clause-last c = desk_completed
