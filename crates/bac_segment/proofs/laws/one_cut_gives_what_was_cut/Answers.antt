use Rattle.bac_segment.proofs.JoinLemmas.{cut_gives, cut_answered, cut_completed}
use Rattle.bac_segment.proofs.laws.one_cut_gives_what_was_cut.Goals as goal

pub returns-clause-joined : goal.returns-clause-joined
returns-clause-joined c = λ plan octets segments l fine cut among. (cut_gives plan octets segments l fine cut among).0

pub returns-clause-or_none : goal.returns-clause-or_none
returns-clause-or_none c = λ plan octets segments l fine cut among. (cut_gives plan octets segments l fine cut among).1

pub returns-clause-answers : goal.returns-clause-answers
returns-clause-answers c = cut_answered

pub returns-clause-last : goal.returns-clause-last
returns-clause-last c = cut_completed
