use Rattle.bac_segment.proofs.JoinLemmas.{cut_joined, cut_all_good}
use Rattle.bac_segment.proofs.laws.what_was_cut_is_joined.Goals as goal

pub returns-clause-joined : goal.returns-clause-joined
returns-clause-joined c = λ plan octets segments key calls r fine cut of h. (cut_joined plan octets segments key calls r fine cut of h).0

pub returns-clause-or_none : goal.returns-clause-or_none
returns-clause-or_none c = λ plan octets segments key calls r fine cut of h. (cut_joined plan octets segments key calls r fine cut of h).1

pub returns-clause-answers : goal.returns-clause-answers
returns-clause-answers c = cut_all_good
