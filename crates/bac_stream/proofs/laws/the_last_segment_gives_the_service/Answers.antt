use Rattle.bac_stream.proofs.JoiningLemmas.{joined_last}
use Rattle.bac_stream.proofs.laws.the_last_segment_gives_the_service.Goals as goal

pub returns : goal.returns
returns c = joined_last c.services_have_one_value.ensures
