use Rattle.bac_stream.proofs.JoiningLemmas.{joined_good}
use Rattle.bac_stream.proofs.laws.joined_segments_give_the_service.Goals as goal

pub returns : goal.returns
returns c = joined_good c.services_have_one_value.ensures
