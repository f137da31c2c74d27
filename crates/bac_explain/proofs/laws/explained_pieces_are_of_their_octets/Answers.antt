use Rattle.bac_explain.proofs.OwnLemmas.{explained-own}
use Rattle.bac_explain.proofs.laws.explained_pieces_are_of_their_octets.Goals as goal

pub returns : goal.returns
returns c = explained-own
