use Rattle.std.proofs.Common.{take}
use Rattle.bac_explain.specs.NamedLines.{data_part}
use Rattle.bac_explain.proofs.LineLemmas.{beside_own}
use Rattle.bac_explain.proofs.named_lines.write_data_part.Goals as goal

pub returns-clause-text : goal.returns-clause-text
returns-clause-text c =
    let part = data_part c.args.from c.args.to in
    beside_own c.write_piece_beside.result c.args.octets.now c.args.canonical.now c.args.left.now part part c.own-own.result.now c.own-beside.result.now (take c.args.at c.args.out.now.items) c.write_piece_beside.new.out.items c.own-own.ensures.own c.own-beside.ensures.own
    c.write_piece_beside.ensures.text
