use Rattle.bac_segment.proofs.JudgeLemmas.{kept_where, adds_where}
use Rattle.bac_segment.proofs.laws.what_may_be_added_is_kept.Goals as goal

pub returns : goal.returns
returns c = λ m s. (kept_where m s, adds_where m s)
