use Rattle.bac_explain.proofs.TileLemmas.{joined-all}
use Rattle.bac_explain.proofs.laws.the_pieces_joined_are_the_octets.Goals as goal

pub returns : goal.returns
returns c = joined-all
