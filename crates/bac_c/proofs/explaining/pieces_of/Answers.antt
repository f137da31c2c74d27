use Rattle.std.proofs.Common.{◌≡◌, ◌∙◌, ap, ◌+◌, min, length, take, rules}
use Rattle.bac_c.proofs.ExplainedLemmas.{first_pieces, written_back}
use Rattle.bac_c.proofs.explaining.pieces_of.Goals as goal

pub returns-clause-pieces : goal.returns-clause-pieces
returns-clause-pieces c =
    let found = c.in_ok-explained.ensures.pieces in
    let count = c.in_ok-explained.explained.count in
    let n = length c.args.octets.now + 1 in
    let size : length c.as_mut_slice.result.now ≡ min c.args.most n = search rules in
    let kept : length c.explain.new.room ≡ c.in_ok-pieces.pieces.len = search rules in
    let cut : c.truncate.new.self.items ≡ take count c.explain.new.room =
    c.truncate.ensures.items ∙ ap (take count) (written_back c.explain.new.room c.in_ok-pieces.pieces.items c.in_ok-pieces.pieces.len kept) in
    (found.0, found.1, found.2.counted, first_pieces c.as_mut_slice.result.now c.explain.new.room c.truncate.new.self.items found.0 count c.args.most n found.2 size c.in_ok-explained.ensures.few cut)
