use Rattle.std.proofs.Common.{arith, length}
use Rattle.bac_explain.proofs.TileLemmas.{covered-once}
use Rattle.bac_explain.proofs.laws.each_octet_is_in_one_piece.Goals as goal

pub returns : goal.returns
returns c = λ octets pieces place tiles before. covered-once place 0 pieces (length octets) tiles (omega arith) before
