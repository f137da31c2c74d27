use Rattle.bac_stream.proofs.FeedLemmas.{answers_are}
use Rattle.bac_stream.proofs.laws.feeds_end_as_files.Goals as goal

pub returns : goal.returns
returns c = answers_are
