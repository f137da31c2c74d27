use Rattle.bac_segment.specs.Reassembled.{opened}
use Rattle.bac_segment.proofs.HistoryLemmas.{counted_held}
use Rattle.bac_segment.proofs.laws.what_counts_is_held.Goals as goal

pub returns : goal.returns
returns c = λ key calls r h. counted_held (opened key) r calls h
