use Rattle.bac_tag.proofs.MarksLemmas.{mark}
use Rattle.bac_tag.proofs.marks.mark_whole_head.Goals as goal

pub returns : goal.returns
returns c =
    mark _ _ _ _ c.requires.spelled c.write_head.ensures
    (rw c.as_slice.ensures.value at c.first_difference.ensures.none) (rw c.as_slice.ensures.value at c.first_difference.ensures.some)
