use Rattle.bac_stream.proofs.FeedLemmas.{no_memory}
use Rattle.bac_stream.proofs.laws.items_want_no_memory.Goals as goal

pub returns : goal.returns
returns c = no_memory
