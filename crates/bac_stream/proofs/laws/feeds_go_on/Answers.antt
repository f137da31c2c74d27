use Rattle.bac_stream.proofs.FeedLemmas.{feeds_on}
use Rattle.bac_stream.proofs.laws.feeds_go_on.Goals as goal

pub returns : goal.returns
returns c = feeds_on
