use Rattle.bac_tag.proofs.MarksLemmas.{spelled_some}
use Rattle.bac_tag.proofs.marks.mark_head.Goals as goal

pub bounds-taken-0 : goal.bounds-taken-0
bounds-taken-0 c = spelled_some _ _ c.requires.spelled.1
