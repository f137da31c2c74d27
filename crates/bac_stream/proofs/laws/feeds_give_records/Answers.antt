use Rattle.bac_stream.proofs.FeedLemmas.{records_given}
use Rattle.bac_stream.proofs.laws.feeds_give_records.Goals as goal

pub returns : goal.returns
returns c = records_given
